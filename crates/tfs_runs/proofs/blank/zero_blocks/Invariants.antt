use mathlib.Core.Path.{◌≡◌}
use Prim.Native.Nat.{◌-◌, ◌≤◌}
use lib.ListN.{length, take}
use Rattle.tfs_spec.specs.Requests.{store_all, zero_stores}
use Rattle.tfs_runs.proofs.blank.zero_blocks.Given as goal

abbrev pub invariant-loop-i : goal.invariant-loop-i
invariant-loop-i l = (l.i ≤ length l.blocks) × (l.image ≡ store_all 512 l.initial.image (zero_stores 512 (take l.i l.blocks))) × (length l.image ≡ length l.initial.image)

abbrev pub decreases-loop-i : goal.decreases-loop-i
decreases-loop-i l = length l.blocks - l.i
