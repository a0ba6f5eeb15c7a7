-- Changes of the plain view of a volume at one name; two at different names commute.
use Rattle.std.specs.Prelude.{◌≡◌, refl, Bool, true, false, cond, ℕ, List, T}
use Rattle.std.proofs.Common.{ap}
use Rattle.std.proofs.Math.Option.{Option}
use Rattle.tfs_spec.specs.Layout.{same_name, Contents}
use Rattle.tfs_spec.specs.Effects.{change}
use Rattle.list_laws.specs.Test.{iff-eq}
use Rattle.tfs_facts.specs.CheckMeans.{same-sym}
use Rattle.tfs_facts.specs.Names.{name-trans}

-- two changes at different names commute
pub change-comm : (k m : List ℕ) (f g : Option (List ℕ) → Option (List ℕ)) (c : Contents) → (T (same_name k m) → ⊥) → (j : List ℕ) → change k f (change m g c) j ≡ change m g (change k f c) j
change-comm k m f g c apart j =
    go (same_name j k) (same_name j m) (λ s t. apart (name-trans k j m (same-sym j k s) t))
  where
    go : (a b : Bool) → (T a → T b → ⊥) → cond a (f (cond b (g (c j)) (c j))) (cond b (g (c j)) (c j)) ≡ cond b (g (cond a (f (c j)) (c j))) (cond a (f (c j)) (c j))
    go true true h = absurd (h tt tt)
    go true false h = refl
    go false true h = refl
    go false false h = refl

-- a change at a name is one at any that is the same
pub change-at : (k m : List ℕ) (g : Option (List ℕ) → Option (List ℕ)) (c : Contents) → T (same_name k m) → (j : List ℕ) → change k g c j ≡ change m g c j
change-at k m g c same j =
    ap (λ (b : Bool). cond b (g (c j)) (c j))
    (iff-eq (same_name j k) (same_name j m) (λ t. name-trans j k m t same) (λ t. name-trans j m k t (same-sym k m same)))
