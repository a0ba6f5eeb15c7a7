-- Across a frame: what a sound volume's other files keep, and what stands under other names.
use Rattle.std.specs.Prelude.{◌≡◌, refl, ◌≢◌, ◌⊎◌, ℕ, ◌*◌, ◌≤◌, ◌<◌, List, length, get_or, T, ltb}
use Rattle.std.proofs.Common.{sym, ap, ◌∙◌, subst, subst₂, inl, inr, ⊎_elim, arith, lt→ltb}
use Rattle.std.proofs.Math.Option.{none, some}
use Rattle.std.proofs.Math.Decide.{dec_lt}
use Rattle.std.proofs.Math.Arith.{le→nltb}
use Rattle.list_laws.specs.Test.{cond_yes, cond_no}
use Rattle.lists.specs.Lists.{word}
use Rattle.tfs_spec.specs.Layout.{slots, block, same_name, need, max_size, numbers, volume_name, BlockSize, View, view, free, used, name, size, number, slot_of, content, contents}
use Rattle.tfs_spec.specs.Consistent.{File, Inside, Sound, Consistent}
use Rattle.tfs_facts.specs.Raw.{head-number, label-byte}
use Rattle.tfs_facts.specs.Views.{view-head}
use Rattle.tfs_proofs.specs.Content.{standing, contents-at}
use Rattle.tfs_proofs.specs.Frame.{Frame, n-same, free-same, used-same, name-same, size_same, number_same, file-to, file-from, content-same}
use Rattle.tfs_facts.specs.Names.{slot-hit, slot-miss, slot_is}

-- a sound view over the same block 0 makes a consistent volume
pub consistent-to : (B : ℕ) → BlockSize B → (img new : List ℕ) → Consistent B img → length new ≡ length img → block B new 0 ≡ block B img 0 → Sound B (view B new) → Consistent B new
consistent-to B sz img new ok long head sound =
    let e : (view B new).head ≡ (view B img).head = view-head B new ∙ head ∙ sym (view-head B img) in
    record {
      long = subst (λ (n : ℕ). 3 * B ≤ n) (sym long) ok.long;
      magical = sym (head-number B new (omega (arith, sz.large))) ∙ ap (λ (x : List ℕ). word x 0) e ∙ head-number B img (omega (arith, sz.large)) ∙ ok.magical;
      labelled = (
        ok.labelled.0,
        ok.labelled.1,
        sym (label-byte B new (omega (arith, sz.large)) ok.labelled.0 ok.labelled.1)
            ∙ ap (λ (x : List ℕ). get_or (volume_name x) ok.labelled.0 0) e
            ∙ label-byte B img (omega (arith, sz.large)) ok.labelled.0 ok.labelled.1
            ∙ ok.labelled.2,
      );
      sound = sound;
    }

-- what stands under a name
pub stands : (B : ℕ) (img nm : List ℕ) (s : ℕ) → slot_of B (view B img) nm ≡ s → s < slots B → contents B img nm ≡ some (content B (view B img) img s)
stands B img nm s e h =
    contents-at B img nm
    ∙ ap (standing B (view B img) img) e
    ∙ cond_yes (ltb s (slots B)) (some (content B (view B img) img s)) none (lt→ltb s (slots B) h)

pub stands-not : (B : ℕ) (img nm : List ℕ) → slots B ≤ slot_of B (view B img) nm → contents B img nm ≡ none
stands-not B img nm h =
    contents-at B img nm
    ∙ cond_no (ltb (slot_of B (view B img) nm) (slots B)) (some (content B (view B img) img (slot_of B (view B img) nm))) none (le→nltb (slot_of B (view B img) nm) (slots B) h)

module _ (B : ℕ) (img new : List ℕ) (s : ℕ) (fr : Frame B img new s) (ok : Sound B (view B img)) where
  abbrev v : View
  v = view B img

  abbrev v' : View
  v' = view B new

  pub formed-to : (t : ℕ) → t ≢ s → t < slots B → T (free v' t) ⊎ T (used v' t)
  formed-to t d h =
      ⊎_elim (λ a. inl (subst T (sym (free-same B img new s fr t h d)) a)) (λ a. inr (subst T (sym (used-same B img new s fr t h d)) a)) (ok.formed t h)

  pub apart-to : (t u : ℕ) → t ≢ s → u ≢ s → File B v' t → File B v' u → T (same_name (name v' t) (name v' u)) → t ≡ u
  apart-to t u dt du ft fu e =
      ok.apart t u (file-from B img new s fr t dt ft) (file-from B img new s fr u du fu)
      (subst₂ (λ (x y : List ℕ). T (same_name x y)) (name-same B img new s fr t ft.slot dt) (name-same B img new s fr u fu.slot du) e)

  module _ (t : ℕ) (d : t ≢ s) (f : File B v' t) where
    old : File B v t
    old = file-from B img new s fr t d f

    pub small-to : size v' t ≤ max_size B
    small-to = subst (λ (z : ℕ). z ≤ max_size B) (sym (size_same B img new s fr t f.slot d)) (ok.small t old)

    pub inside-to : (k : ℕ) → k < need B (size v' t) → Inside v' (number v' t k)
    inside-to k l =
        let i : Inside v (number v t k) = ok.inside t k old (subst (λ (z : ℕ). k < need B z) (size_same B img new s fr t f.slot d) l) in
        record {
          low = subst (λ (b : ℕ). 3 ≤ b) (sym (number_same B img new s fr t f.slot d k)) i.low;
          high = subst₂ (λ (b n : ℕ). b < n) (sym (number_same B img new s fr t f.slot d k)) (sym (n-same B img new s fr)) i.high;
        }

    pub rest-to : (k : ℕ) → need B (size v' t) ≤ k → k < numbers B → number v' t k ≡ 0
    rest-to k l h =
        number_same B img new s fr t f.slot d k
        ∙ ok.rest t k old (subst (λ (z : ℕ). need B z ≤ k) (size_same B img new s fr t f.slot d) l) h

  -- what stands under a name that is not the slot's
  pub contents-other : 0 < B → Sound B v' → (j : List ℕ) → (File B v s → T (same_name (name v s) j) → ⊥) → (File B v' s → T (same_name (name v' s) j) → ⊥) → contents B new j ≡ contents B img j
  contents-other pos ok' j away away' =
      elim (dec_lt (slot_of B v j) (slots B)) [ yes h ↦ found h | no h ↦ missed (omega arith) ]
    where
      found : slot_of B v j < slots B → contents B new j ≡ contents B img j
      found h =
          let t : ℕ = slot_of B v j in
          let f = slot-hit B v j h in
          let d : slot_of B v j ≢ s = λ e. away (subst (File B v) e f.0) (subst (λ (x : ℕ). T (same_name (name v x) j)) e f.1) in
          let at : slot_of B v' j ≡ slot_of B v j =
          slot_is B v' j ok'.apart (slot_of B v j) (file-to B img new s fr (slot_of B v j) d f.0)
          (subst (λ (x : List ℕ). T (same_name x j)) (sym (name-same B img new s fr (slot_of B v j) h d)) f.1)
          in
          stands B new j (slot_of B v j) at h ∙ ap some (content-same B img new s fr pos (slot_of B v j) d f.0) ∙ sym (stands B img j (slot_of B v j) refl h)

      missed : slots B ≤ slot_of B v j → contents B new j ≡ contents B img j
      missed h =
          elim (dec_lt (slot_of B v' j) (slots B)) [
            | yes h' ↦ (
                let f = slot-hit B v' j h' in
                let d : slot_of B v' j ≢ s = λ e. away' (subst (File B v') e f.0) (subst (λ (x : ℕ). T (same_name (name v' x) j)) e f.1) in
                absurd (slot-miss B v j h (slot_of B v' j) (file-from B img new s fr (slot_of B v' j) d f.0) (subst (λ (x : List ℕ). T (same_name x j)) (name-same B img new s fr (slot_of B v' j) h' d) f.1)))
            | no h' ↦ stands-not B new j (omega arith) ∙ sym (stands-not B img j h)
          ]
