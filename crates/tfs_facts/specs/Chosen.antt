-- The blocks that create chooses, and what a grant of create says.
use Rattle.std.specs.Prelude.{◌≡◌, ◌⊎◌, ℕ, ◌+◌, ◌≤◌, ◌<◌, List, length, get_or, T}
use Rattle.std.proofs.Common.{sym, ◌∙◌, inl, inr, arith, get_or-take}
use Rattle.std.proofs.Math.Path.{subst, subst₂}
use Rattle.std.proofs.Math.Decide.{dec_lt}
use Rattle.std.proofs.Math.ListN.{length-take}
use Rattle.tfs_spec.specs.Layout.{slots, need, max_size, name_allowed, View, slot_of, free_slot, free_blocks}
use Rattle.tfs_spec.specs.Consistent.{Owned, Inside, Sound}
use Rattle.tfs_facts.specs.Room.{free-count, FreeIn, free-member, free-rising}
use Rattle.tfs_spec.specs.Requests.{free_from, chosen}

-- what a grant of create says
pub record CreateGrant (B : ℕ) (v : View) (nm : List ℕ) (z : ℕ) : Type 0 where
  pub named : T (name_allowed nm)
  pub small : z ≤ max_size B
  pub fresh : slots B ≤ slot_of B v nm
  pub slot : free_slot B v < slots B
  pub room : 1 + need B z ≤ free_blocks v

-- a block that can be chosen
pub record Picked (B : ℕ) (v : View) (b : ℕ) : Type 0 where
  pub inside : Inside v b
  pub unowned : Owned B v b → ⊥

-- the chosen blocks: as many as a file of z bytes takes, free ones, in rising order
pub record Choice (B : ℕ) (v : View) (z : ℕ) : Type 0 where
  pub length-cs : length (chosen B v z) ≡ 1 + need B z
  pub cs-free : (m : ℕ) → m < length (chosen B v z) → FreeIn v.map 0 v.n (get_or (chosen B v z) m 0)
  pub rising : (m j : ℕ) → m < j → j < length (chosen B v z) → get_or (chosen B v z) m 0 < get_or (chosen B v z) j 0
  pub at-cs : (m : ℕ) → m < length (chosen B v z) → Picked B v (get_or (chosen B v z) m 0)

-- a free block of a sound volume
picked : (B : ℕ) (v : View) → Sound B v → (b : ℕ) → FreeIn v.map 0 v.n b → Picked B v b
picked B v ok b f =
    let l : b < v.n = omega (arith, f.high) in
    let un : (b < 3) ⊎ Owned B v b → ⊥ = λ w. subst T f.clear ((ok.mapped b l).1 w) in
    record {
      inside = record { low = elim (dec_lt b 3) [ yes x ↦ absurd (un (inl x)) | no x ↦ omega arith ]; high = l };
      unowned = λ w. un (inr w);
    }

module _ (B : ℕ) (v : View) (ok : Sound B v) (z : ℕ) (room : 1 + need B z ≤ free_blocks v) where
  abbrev all : List ℕ
  all = free_from v.map 0 v.n

  abbrev cs : List ℕ
  cs = chosen B v z

  many : length cs ≡ 1 + need B z
  unfolding chosen
  many = length-take (1 + need B z) all ∙ omega (arith, free-count v)

  free : (m : ℕ) → m < length cs → FreeIn v.map 0 v.n (get_or cs m 0)
  unfolding chosen
  free m h =
      subst (FreeIn v.map 0 v.n) (sym (get_or-take (1 + need B z) all m 0 (omega (arith, many))))
      (free-member v.map 0 v.n m (omega (arith, many, free-count v)))

  up : (m j : ℕ) → m < j → j < length cs → get_or cs m 0 < get_or cs j 0
  unfolding chosen
  up m j a h =
      let l : j < 1 + need B z = omega (arith, many) in
      subst₂ (λ (x y : ℕ). x < y)
      (sym (get_or-take (1 + need B z) all m 0 (omega arith)))
      (sym (get_or-take (1 + need B z) all j 0 l))
      (free-rising v.map 0 v.n m j a (omega (arith, free-count v)))

  -- where there is room, create chooses so
  pub choice : Choice B v z
  choice = record { length-cs = many; cs-free = free; rising = up; at-cs = λ m h. picked B v ok (get_or cs m 0) (free m h) }
