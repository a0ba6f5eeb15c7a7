-- Two images that differ, in what a view takes from them, in the map alone: their files are the same, and mend makes one with more bits set consistent where the other is.
use Rattle.std.specs.Prelude.{◌≡◌, refl, ◌⊎◌, ◌↔◌, ℕ, ◌+◌, ◌*◌, ◌/◌, ◌%◌, ◌≤◌, ◌<◌, length, T, ltb}
use Rattle.std.proofs.Math.Path.{sym, ap}
use Rattle.std.proofs.Common.{◌∙◌, subst, inl, inr, ⊎_elim, arith, ltb→lt, T_not}
use Rattle.std.proofs.Math.Bool.{cond}
use mathlib.Core.List.{List, []}
use Rattle.std.proofs.Math.Option.{none, some}
use Rattle.std.proofs.Math.Decide.{dec_le, dec_lt, ℕ_discrete}
use Rattle.std.proofs.Math.ListN.{get_or}
use Rattle.list_laws.specs.Test.{by-test, cond_no, iff-eq}
use Rattle.list_laws.specs.Table.{table-cong}
use Rattle.tfs_spec.specs.Layout.{BlockSize, slots, block, map_bit, View, view, free, used, inode, name, size, number, slot_of, place, content, contents}
use Rattle.tfs_spec.specs.Check.{Verdict, consistent, broken, check}
use Rattle.tfs_spec.specs.Consistent.{File, Owner, inode_of, content_of, Owns, Owned, Inside, Sound, Consistent, FirstBroken, Stray, OnlyStrays}
use Rattle.tfs_spec.specs.Requests.{Outcome, mended, mend}
use Rattle.tfs_spec.specs.Cuts.{Leaves}
use Rattle.tfs_facts.specs.Sizes.{in-need, in_block}
use Rattle.tfs_facts.specs.Stores.{block-byte}
use Rattle.tfs_facts.specs.Views.{view-map, length-map}
use Rattle.tfs_facts.specs.MapBits.{maps-same}
use Rattle.tfs_facts.specs.CheckMeans.{owns-inside, check-breaks}
use Rattle.tfs_facts.specs.Names.{slot-hit}
use Rattle.tfs_facts.specs.Mends.{with_map, view-like, file-from, owns-from, owns-to, map', length-new, mended-long, mended-other, mended-view, mended-above, mended-clear, mended-kept}
use Rattle.tfs_proofs.specs.Places.{file-at}
use Rattle.tfs_proofs.specs.Content.{standing, contents-at}
use Rattle.tfs_proofs.specs.Others.{consistent-to}
use Rattle.tfs_proofs.specs.Mending.{mend-yes, only-strays}

pub record SameButMap (B : ℕ) (base new : List ℕ) : Type 0 where
  pub long : length new ≡ length base
  pub head : block B new 0 ≡ block B base 0
  pub dir : block B new 2 ≡ block B base 2
  pub owned : (o : Owner) (b : ℕ) → Owns B (view B base) o b → block B new b ≡ block B base b

-- soundness looks at the map in one place alone
sound-with : (B : ℕ) (v : View) (m : List ℕ) → Sound B v → ((b : ℕ) → b < v.n → T (map_bit m b) ↔ ((b < 3) ⊎ Owned B (with_map v m) b)) → Sound B (with_map v m)
unfolding free used name size number
sound-with B v m ok mapped =
    record {
      formed = ok.formed;
      apart = λ s t f g e. ok.apart s t (file-from B v m s f) (file-from B v m t g) e;
      small = λ s f. ok.small s (file-from B v m s f);
      inside = λ s k f l. (let i : Inside v (number v s k) = ok.inside s k (file-from B v m s f) l in record { low = i.low; high = i.high });
      rest = λ s k f. ok.rest s k (file-from B v m s f);
      once = λ b o p w x. ok.once b o p (owns-from B v m o b w) (owns-from B v m p b x);
      mapped = mapped;
    }

module _ (B : ℕ) (pos : 0 < B) (base new : List ℕ) (ok : Sound B (view B base)) (like : SameButMap B base new) where
  abbrev v : View
  v = view B base

  abbrev m : List ℕ
  m = block B new 1

  pub view-is : view B new ≡ with_map v m
  view-is =
      view-like B base new like.long like.head like.dir
      (λ s h i. like.owned (inode_of s) (inode v s) (file-at B v s h i, refl))

  content-is : (s : ℕ) → File B v s → content B (with_map v m) new s ≡ content B v base s
  unfolding content place number size
  content-is s f =
      table-cong (λ p. get_or new (number v s (p / B) * B + p % B) 0) (λ p. get_or base (number v s (p / B) * B + p % B) 0) 0 (size v s)
      (λ p a l.
      block-byte B new base (number v s (p / B)) (p % B) (in_block B pos p)
      (like.owned (content_of s (p / B)) (number v s (p / B)) (f, in-need B pos p (size v s) (omega arith), refl)))

  pub files-same : (nm : List ℕ) → contents B new nm ≡ contents B base nm
  unfolding slot_of free name
  files-same nm =
      contents-at B new nm
      ∙ ap (λ (w : View). standing B w new (slot_of B w nm)) view-is
      ∙ by-test (ltb (slot_of B v nm) (slots B))
      (λ t. ap (λ (c : List ℕ). cond (ltb (slot_of B v nm) (slots B)) (some c) none) (content-is (slot_of B v nm) (slot-hit B v nm (ltb→lt (slot_of B v nm) (slots B) t)).0))
      (λ t. cond_no (ltb (slot_of B v nm) (slots B)) _ none t ∙ sym (cond_no (ltb (slot_of B v nm) (slots B)) _ none t))
      ∙ sym (contents-at B base nm)

-- ---- more bits set than in a consistent volume
module _ (B : ℕ) (sz : BlockSize B) (base new : List ℕ) (ok : Consistent B base) (like : SameButMap B base new) (more : (b : ℕ) → b < (view B base).n → T (map_bit (view B base).map b) → T (map_bit (block B new 1) b)) where
  abbrev u : View
  u = view B base

  abbrev w : View
  w = view B new

  p : 0 < B
  p = omega (arith, sz.large)

  e : w ≡ with_map u (block B new 1)
  e = view-is B p base new ok.sound like

  long : 3 * B ≤ length new
  long = omega (arith, like.long, ok.long)

  abbrev k : List ℕ
  k = map' B sz new long

  n-same : w.n ≡ u.n
  n-same = ap (λ (x : View). x.n) e

  bit_is : (b : ℕ) → map_bit w.map b ≡ map_bit (block B new 1) b
  bit_is b = ap (λ (x : View). map_bit x.map b) e

  owned-base : (b : ℕ) → Owned B w b → Owned B u b
  owned-base b x = (x.0, owns-from B u (block B new 1) x.0 b (subst (λ (y : View). Owns B y x.0 b) e x.1))

  -- a bit that is set after mend is set in the base
  set-base : (b : ℕ) → b < u.n → T (map_bit k b) → T (map_bit u.map b)
  set-base b h t =
      by-test (map_bit u.map b) (λ x. x)
      (λ x.
      let free : (b < 3) ⊎ Owned B u b → ⊥ = λ r. T_not (map_bit u.map b) x ((ok.sound.mapped b h).1 r) in
      let calm : Stray B w b → ⊥ = λ s. subst T (mended-clear B sz new long b s) t in
      absurd (calm (record {
        inside = record { low = elim (dec_le 3 b) [ yes l ↦ l | no l ↦ absurd (free (inl (omega arith))) ]; high = omega (arith, n-same) };
        set = subst T (mended-kept B sz new long b calm) t;
        unowned = λ o. free (inr (owned-base b o));
      })))

  -- and the reverse
  base-set : (b : ℕ) → b < u.n → T (map_bit u.map b) → T (map_bit k b)
  base-set b h t =
      let calm : Stray B w b → ⊥ = λ s. ⊎_elim (λ l. omega (arith, s.inside.low)) (λ o. s.unowned (o.0, subst (λ (y : View). Owns B y o.0 b) (sym e) (owns-to B u (block B new 1) o.0 b o.1))) ((ok.sound.mapped b h).0 t) in
      subst T (sym (mended-kept B sz new long b calm ∙ bit_is b)) (more b h t)

  reserved-to : (b : ℕ) → (b < 3) ⊎ Owned B u b → (b < 3) ⊎ Owned B (with_map u k) b
  reserved-to b (inl l) = inl l
  reserved-to b (inr o) = inr (o.0, owns-to B u k o.0 b o.1)

  reserved-from : (b : ℕ) → (b < 3) ⊎ Owned B (with_map u k) b → (b < 3) ⊎ Owned B u b
  reserved-from b (inl l) = inl l
  reserved-from b (inr o) = inr (o.0, owns-from B u k o.0 b o.1)

  view-mended : view B (mended B new) ≡ with_map u k
  view-mended = mended-view B sz new long ∙ ap (λ (x : View). with_map x k) e

  mended-consistent : Consistent B (mended B new)
  mended-consistent =
      consistent-to B sz base (mended B new) ok (mended-long B sz new long ∙ like.long) (mended-other B sz new long 0 (λ q. omega arith) ∙ like.head)
      (subst (Sound B) (sym view-mended)
      (sound-with B u k ok.sound
      (λ b h. ((λ t. reserved-to b ((ok.sound.mapped b h).0 (set-base b h t))), λ r. base-set b h ((ok.sound.mapped b h).1 (reserved-from b r))))))

  mended-alike : SameButMap B base (mended B new)
  mended-alike = record {
    long = mended-long B sz new long ∙ like.long;
    head = mended-other B sz new long 0 (λ q. omega arith) ∙ like.head;
    dir = mended-other B sz new long 2 (λ q. omega arith) ∙ like.dir;
    owned = λ o b x. (let i : Inside u b = owns-inside B u ok.sound o b x in mended-other B sz new long b (λ q. omega (arith, i.low)) ∙ like.owned o b x);
  }

  verdict-of : OnlyStrays B new → (x : Verdict) → check B new ≡ x → (check B new ≡ consistent) ⊎ ((q : ℕ) × (check B new ≡ broken 7 q))
  verdict-of only consistent a = inl a
  verdict-of only (broken num q) a =
      let first : FirstBroken B new num q = (check-breaks B sz new num q).0 a in
      elim (ℕ_discrete num 7) [
        | yes i ↦ inr (q, a ∙ ap (λ (x : ℕ). broken x q) i)
        | no d ↦ absurd (only num q (record { broken = first.here; other = λ i s. d i }))
      ]

  pub leaves : ((b : ℕ) → u.n ≤ b → map_bit (block B new 1) b ≡ map_bit (block B base 1) b) → ((i : ℕ) → get_or (block B new 1) i 0 / 256 ≡ get_or (block B base 1) i 0 / 256) → Leaves B new base
  leaves beyond above =
      record {
        files = files-same B p base new ok.sound like;
        verdict = verdict-of only (check B new) refl;
        strays = only;
        mends = ap (λ (o : Outcome). o.answer) given;
        mended = subst (Consistent B) image mended-consistent;
        mended-files = λ nm. (ap (λ (x : List ℕ). contents B x nm) (sym image) ∙ files-same B p base (mended B new) ok.sound mended-alike nm);
        mended-view = ap (view B) (sym image) ∙ view-mended ∙ ap (with_map u) map_back;
      }
    where
      only : OnlyStrays B new
      only = (only-strays B sz new).0 mended-consistent

      given : mend B new ≡ record { answer = Rattle.tfs_spec.specs.Requests.done; image = mended B new; buffer = [] }
      given = mend-yes B sz new mended-consistent

      image : mended B new ≡ (mend B new).image
      image = ap (λ (o : Outcome). o.image) (sym given)

      bits : (b : ℕ) → map_bit k b ≡ map_bit u.map b
      bits b =
          elim (dec_lt b u.n) [
            | yes h ↦ iff-eq (map_bit k b) (map_bit u.map b) (set-base b h) (base-set b h)
            | no h ↦ (mended-kept B sz new long b (λ s. omega (arith, s.inside.high, n-same)) ∙ bit_is b ∙ beyond b (omega arith) ∙ ap (λ (x : List ℕ). map_bit x b) (sym (view-map B base)))
          ]

      map_back : k ≡ u.map
      map_back =
          maps-same k u.map (length-new B sz new long ∙ sym (length-map B base ok.long))
          (λ i.
          mended-above B sz new long i
          ∙ ap (λ (x : List ℕ). get_or x i 0 / 256) (view-map B new)
          ∙ above i
          ∙ ap (λ (x : List ℕ). get_or x i 0 / 256) (sym (view-map B base)))
          bits
