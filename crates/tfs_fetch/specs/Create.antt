-- The stores of a create, from its plan.
use Rattle.std.specs.Prelude.{◌≡◌, ℕ, ◌+◌, List, length}
use Rattle.std.proofs.Common.{ap, ◌∙◌, arith}
use Rattle.tfs_spec.specs.Layout.{view}
use Rattle.tfs_spec.specs.Requests.{Store, create_stores, place_stores, kth}
use Rattle.tfs_facts.specs.Fetched.{length-place}
use Rattle.tfs_change.specs.declared.Plan.{Plan}
use Rattle.tfs_change.specs.Create.{Taken, stores_are}

module _ (img nm : List ℕ) (z : ℕ) (p : Plan) (t : Taken img nm z p) where
  pub create_many : length p.blocks.now + 2 ≡ length (create_stores 512 (view 512 img) nm z)
  create_many =
      length-place 512 (view 512 img) p.slot nm z p.blocks.now (omega (arith, t.many)) ∙ ap length (stores_are img nm z p t)

  pub create_one : (k : ℕ) (x : Store) → x ≡ kth k (place_stores 512 (view 512 img) p.slot nm z p.blocks.now) → x ≡ kth k (create_stores 512 (view 512 img) nm z)
  create_one k x e = e ∙ ap (kth k) (stores_are img nm z p t)
