-- Two requests out of create, remove and write on different names end alike in either order.
use Rattle.std.specs.Prelude.{◌≡◌, ℕ, List, T}
use Rattle.std.proofs.Common.{sym, ap, ◌∙◌}
use Rattle.std.proofs.Math.Path.{fun_ext}
use Rattle.tfs_spec.specs.Layout.{BlockSize, same_name, contents, Contents}
use Rattle.tfs_spec.specs.Consistent.{Consistent}
use Rattle.tfs_spec.specs.Requests.{granted, Change, perform}
use Rattle.tfs_spec.specs.Effects.{change, name_on, effect_of}
use Rattle.tfs_spec.specs.Laws.{BothOrders}
use Rattle.tfs_facts.specs.CheckMeans.{same-sym}
use Rattle.tfs_proofs.specs.Ledger.{change-comm}
use Rattle.tfs_proofs.specs.Changes.{Changed, changed}

module _ (B : ℕ) (sz : BlockSize B) (img : List ℕ) (ok : Consistent B img) where
  -- one after the other, as two changes of the plain view
  one_then : (a b : Change) → T (granted (perform B img a).answer) → T (granted (perform B (perform B img a).image b).answer) → (j : List ℕ) → contents B (perform B (perform B img a).image b).image j ≡ change (name_on b) (effect_of b) (change (name_on a) (effect_of a) (contents B img)) j
  one_then a b ga gab j =
      let ca : Changed B img a = changed B sz img ok a ga in
      (changed B sz (perform B img a).image ca.consistent b gab).contents j
      ∙ ap (λ (c : Contents). change (name_on b) (effect_of b) c j) (fun_ext ca.contents)

-- "Two requests out of create, remove and write, on different names and granted in both orders,
-- end with the same names, sizes and contents in either order": all pairs of kinds at once
pub orders-law : (B : ℕ) → BlockSize B → (img : List ℕ) → Consistent B img → (a b : Change) → (T (same_name (name_on a) (name_on b)) → ⊥) → BothOrders B img a b → (nm : List ℕ) → contents B (perform B (perform B img a).image b).image nm ≡ contents B (perform B (perform B img b).image a).image nm
orders-law B sz img ok a b apart both nm =
    let ka : List ℕ = name_on a in
    let kb : List ℕ = name_on b in
    one_then B sz img ok a b both.first-a both.then-b nm
    ∙ change-comm kb ka (effect_of b) (effect_of a) (contents B img) (λ t. apart (same-sym kb ka t)) nm
    ∙ sym (one_then B sz img ok b a both.first-b both.then-a nm)
