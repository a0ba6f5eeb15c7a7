use mathlib.Core.Path.{refl, ap, ◌∙◌}
use mathlib.Core.List.{List, ◌++◌}
use Prim.Native.Nat.{ℕ, ◌+◌, ◌*◌}
use native.Mathlib.Omega.{arith}
use lib.ListN.{get_or}
use Rattle.lists.specs.Lists.{bytes4}
use Rattle.timing_spec.specs.Timing.{bytes2}
use Rattle.timing.specs.Bytes.{value-more, values-all}
use Rattle.timing.proofs.bytes.bytes_of.Goals as goal

pub loop-i-preserved : goal.loop-i-preserved
loop-i-preserved c = (
  c.put_value.auto.bytes ∙ c.loop-i.invariant.0,
  value-more (bytes4 c.args.board ++ bytes4 c.args.maker) c.args.values.now c.put_value.new.bytes c.loop-i.i (8 + 2 * c.loop-i.i) refl (omega (arith, c.requires))
      (c.put_value.ensures ∙ ap (λ (l : List ℕ). l ++ bytes2 (get_or c.args.values.now c.loop-i.i 0)) c.loop-i.invariant.1),
)

pub returns : goal.returns
returns c =
    values-all c.args.board c.args.maker c.args.values.now c.loop-i.bytes c.loop-i.i (omega arith) c.requires c.loop-i.invariant.0 c.loop-i.invariant.1
