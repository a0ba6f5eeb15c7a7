use mathlib.Core.Path.{ap, ◌∙◌}
use mathlib.Core.List.{List}
use Prim.Native.Nat.{ℕ}
use Rattle.tfs_spec.specs.Layout.{same_name}
use Rattle.tfs_dir.proofs.slots.Slot.is_named.Goals as goal

pub returns-then-last_same : goal.returns-then-last_same
unfolding same_name
returns-then-last_same c = c.eq.ensures ∙ ap (λ (l : List ℕ). same_name l c.args.name.now) c.name.ensures
