-- A refused walk: its place is the lowest header that the test refuses.
use Rattle.std.specs.Prelude.{ℕ, zero, suc, ◌+◌, ◌-◌, ◌≤◌, ◌<◌, ◌≡◌, refl, ◌≢◌, ◌⊎◌, Bool, true, false, List}
use Rattle.std.proofs.Common.{sym, subst, ◌∙◌, inl, inr, ⊎_elim, arith, sub-one}
use Rattle.std.proofs.Math.Decide.{ℕ_discrete}
use Rattle.romfs_spec.specs.Layout.{next, info, own, has_list}
use Rattle.romfs_spec.specs.Check.{Verdict, accepted, broken, visit_list, visit_entry}
use Rattle.romfs_facts.specs.Tested.{Sound}
use Rattle.romfs_facts.specs.Facts.{room, next-from, next-to, own-next, first_to, depth-to, true-false}
use Rattle.romfs_facts.specs.Visit.{From, here, along, inside, Cases, same, later, below, cases, lies, not-both, list-refused, list-last, list-next, list_of, entry-refused, entry-leaf, entry-list, all}

pub data Out (v : Verdict) : Type 0 where
  fine : v ≡ accepted → Out v
  fails : (n q : ℕ) → v ≡ broken n q → Out v

pub out : (v : Verdict) → Out v
out accepted = fine refl
out (broken n q) = fails n q refl

pub yes-no : (b : Bool) → (b ≡ true) ⊎ (b ≡ false)
yes-no true = inl refl
yes-no false = inr refl

-- a first step put before a path
from_next : {s : List ℕ} {p bound depth q b d : ℕ} → Sound s p bound depth → next s p ≢ 0 → From s (next s p) bound depth q b d → From s p bound depth q b d
from_next h z here = along here h z
from_next h z (along f o n) = along (from_next h z f) o n
from_next h z (inside f o t) = inside (from_next h z f) o t

from_first : {s : List ℕ} {p bound depth q b d : ℕ} → Sound s p bound depth → has_list s p ≡ true → From s (info s p) (own s bound p) (suc depth) q b d → From s p bound depth q b d
from_first h u here = inside here h u
from_first h u (along f o n) = along (from_first h u f) o n
from_first h u (inside f o t) = inside (from_first h u f) o t

-- R is known of each header that the walk comes to
module _ (s : List ℕ) (test : ℕ → ℕ → ℕ → Verdict) (R : ℕ → ℕ → ℕ → Type 0)
    (sound : (q b d : ℕ) → R q b d → test b d q ≡ accepted → Sound s q b d)
    (after : (q b d : ℕ) → R q b d → test b d q ≡ accepted → next s q ≢ 0 → R (next s q) b d)
    (under : (q b d : ℕ) → R q b d → test b d q ≡ accepted → has_list s q ≡ true → R (info s q) (own s b q) (suc d))
    (placed : (q b d n x : ℕ) → test b d q ≡ broken n x → x ≡ q) where
  -- x is refused with n, and no header below x is refused
  pub record Lowest (p bound depth n x : ℕ) : Type 0 where
    pub b : ℕ
    pub d : ℕ
    pub at : From s p bound depth x b d
    pub known : R x b d
    pub refuses : test b d x ≡ broken n x
    pub lower : (q c e : ℕ) → From s p bound depth q c e → q < x → test c e q ≡ accepted

  abbrev Low : ℕ → Type 0
  Low left = (fuel p bound depth n x : ℕ) → R p bound depth → left + depth ≡ 8 → p < bound → bound - p ≤ fuel → visit_list s (visit_entry s test left bound) fuel p ≡ broken n x → Lowest p bound depth n x

  low-here : (p bound depth n x m y : ℕ) → R p bound depth → p < bound → test bound depth p ≡ broken m y → broken m y ≡ broken n x → Lowest p bound depth n x
  low-here p bound depth n x m y r h t e =
      let yp : y ≡ p = placed p bound depth m y t in
      let xp : x ≡ p = sym (let w : y ≡ x = cc in w) ∙ yp in
      record {
        b = bound;
        d = depth;
        at = subst (λ (z : ℕ). From s p bound depth z bound depth) (sym xp) here;
        known = subst (λ (z : ℕ). R z bound depth) (sym xp) r;
        refuses = subst (λ (z : ℕ). test bound depth z ≡ broken n x) (sym xp) (t ∙ e);
        lower = λ q c d f l. absurd (let g = lies h f in omega arith);
      }

  lower_by : (p bound depth x : ℕ) → test bound depth p ≡ accepted → (q c e : ℕ) → q < x → (Sound s p bound depth → next s p ≢ 0 → From s (next s p) bound depth q c e → test c e q ≡ accepted) → (Sound s p bound depth → has_list s p ≡ true → From s (info s p) (own s bound p) (suc depth) q c e → test c e q ≡ accepted) → Cases s p bound depth q c e → test c e q ≡ accepted
  lower_by p bound depth x t q c e l rest list same = t
  lower_by p bound depth x t q c e l rest list (later o z f) = rest o z f
  lower_by p bound depth x t q c e l rest list (below o u f) = list o u f

  -- the refusal is in the entry's list
  low-list : (p bound depth n x : ℕ) → p < bound → test bound depth p ≡ accepted → Sound s p bound depth → has_list s p ≡ true → Lowest (info s p) (own s bound p) (suc depth) n x → Lowest p bound depth n x
  low-list p bound depth n x h t o u low =
      let x-in = lies (first_to s p bound depth o u) low.at in
      record {
        b = low.b;
        d = low.d;
        at = from_first o u low.at;
        known = low.known;
        refuses = low.refuses;
        lower = λ q c e f l.
            lower_by p bound depth x t q c e l
            (λ o₂ z g. absurd (let q-in = lies (next-to s p bound depth o z) g in omega (arith, own-next s bound p z)))
            (λ o₂ u₂ g. low.lower q c e g l)
            (cases f);
      }

  -- the refusal is past the entry
  low-rest : (p bound depth n x : ℕ) → test bound depth p ≡ accepted → Sound s p bound depth → next s p ≢ 0 → ((q c e : ℕ) → has_list s p ≡ true → From s (info s p) (own s bound p) (suc depth) q c e → test c e q ≡ accepted) → Lowest (next s p) bound depth n x → Lowest p bound depth n x
  low-rest p bound depth n x t o z list low = record {
    b = low.b;
    d = low.d;
    at = from_next o z low.at;
    known = low.known;
    refuses = low.refuses;
    lower = λ q c e f l. lower_by p bound depth x t q c e l (λ o₂ z₂ g. low.lower q c e g l) (λ o₂ u g. list q c e u g) (cases f);
  }

  -- an accepted entry: the list ends, and nothing was refused, or goes on
  low-on : (left fuel p bound depth n x : ℕ) → visit_list s (visit_entry s test left bound) (suc fuel) p ≡ broken n x → visit_entry s test left bound p ≡ accepted → R p bound depth → test bound depth p ≡ accepted → Sound s p bound depth → ((q c e : ℕ) → has_list s p ≡ true → From s (info s p) (own s bound p) (suc depth) q c e → test c e q ≡ accepted) → (next s p ≢ 0 → visit_list s (visit_entry s test left bound) fuel (next s p) ≡ broken n x → Lowest (next s p) bound depth n x) → Lowest p bound depth n x
  low-on left fuel p bound depth n x e en r t o list rest =
      elim (ℕ_discrete (next s p) 0) [
        | yes z ↦ absurd (not-both (list-last s (visit_entry s test left bound) (suc fuel) p (omega arith) en z) e)
        | no z ↦ low-rest p bound depth n x t o z list (rest z (sym (rw sub-one at (list-next s (visit_entry s test left bound) (suc fuel) p (omega arith) en z)) ∙ e))
      ]

  low_below : (left fuel p bound depth n x : ℕ) → (left ≢ 0 → Low (left - 1)) → p < bound → left + depth ≡ 8 → visit_list s (visit_entry s test left bound) (suc fuel) p ≡ broken n x → R p bound depth → test bound depth p ≡ accepted → Sound s p bound depth → has_list s p ≡ true → (next s p ≢ 0 → visit_list s (visit_entry s test left bound) fuel (next s p) ≡ broken n x → Lowest (next s p) bound depth n x) → Out (list_of s test bound p (left - 1)) → Lowest p bound depth n x
  low_below left fuel p bound depth n x deep h l e r t o u rest (fine a) =
      let some : left ≢ 0 = omega (arith, depth-to s p bound depth o u) in
      low-on left fuel p bound depth n x e (entry-list s test bound p left depth l some t u ∙ a) r t o
      (λ q c d u₂ g. all s test (left - 1) (own s bound p - info s p) (info s p) (own s bound p) (suc depth) q c d (omega arith) (first_to s p bound depth o u) (omega arith) a g)
      rest
  low_below left fuel p bound depth n x deep h l e r t o u rest (fails m y a) =
      let some : left ≢ 0 = omega (arith, depth-to s p bound depth o u) in
      let en : visit_entry s test left bound p ≡ broken m y = entry-list s test bound p left depth l some t u ∙ a in
      let v : broken m y ≡ broken n x = sym (list-refused s (visit_entry s test left bound) (suc fuel) p m y (omega arith) en) ∙ e in
      low-list p bound depth n x h t o u
      (deep some (own s bound p - info s p) (info s p) (own s bound p) (suc depth) n x (under p bound depth r t u) (omega arith) (first_to s p bound depth o u) (omega arith) (a ∙ v))

  low-entry : (left fuel p bound depth n x : ℕ) → (left ≢ 0 → Low (left - 1)) → p < bound → left + depth ≡ 8 → visit_list s (visit_entry s test left bound) (suc fuel) p ≡ broken n x → R p bound depth → (Sound s p bound depth → R p bound depth → test bound depth p ≡ accepted → next s p ≢ 0 → visit_list s (visit_entry s test left bound) fuel (next s p) ≡ broken n x → Lowest (next s p) bound depth n x) → Out (test bound depth p) → Lowest p bound depth n x
  low-entry left fuel p bound depth n x deep h l e r rest (fails m y t) =
      low-here p bound depth n x m y r h t
      (sym (list-refused s (visit_entry s test left bound) (suc fuel) p m y (omega arith) (entry-refused s test bound p left depth m y l t)) ∙ e)
  low-entry left fuel p bound depth n x deep h l e r rest (fine t) =
      let o : Sound s p bound depth = sound p bound depth r t in
      ⊎_elim
      (λ u. low_below left fuel p bound depth n x deep h l e r t o u (rest o r t) (out (list_of s test bound p (left - 1))))
      (λ u. low-on left fuel p bound depth n x e (entry-leaf s test bound p left depth l t u) r t o (λ q c d u₂ g. absurd (true-false u₂ u)) (rest o r t))
      (yes-no (has_list s p))

  low_by : (left : ℕ) → (left ≢ 0 → Low (left - 1)) → Low left
  low_by left deep zero p bound depth n x r l h k e = absurd (omega arith)
  low_by left deep (suc fuel) p bound depth n x r l h k e =
      low-entry left fuel p bound depth n x deep h l e r
      (λ o r₂ t z f. low_by left deep fuel (next s p) bound depth n x (after p bound depth r t z) l (next-to s p bound depth o z) (omega (arith, room s p, next-from s p bound depth o z)) f)
      (out (test bound depth p))

  pub lowest : (left : ℕ) → Low left
  lowest zero = low_by zero (λ z. absurd (z refl))
  lowest (suc left) = low_by (suc left) (λ z. rw sub-one (lowest left))
