use mathlib.Core.Path.{◌≡◌, ◌∙◌}
use mathlib.Core.Bool.{◌&&◌}
use Prim.Native.Nat.{◌+◌, ◌*◌}
use native.Mathlib.Nat.{add-sub_cancel_left}
use native.Mathlib.Omega.{arith}
use lib.ListN.{drop}
use Rattle.lists.specs.Lists.{same_list}
use Rattle.spans.specs.Same.{same_next}
use Rattle.spans.proofs.search.same_long.Goals as goal

pub returns-then-not-same_all : goal.returns-then-not-same_all
returns-then-not-same_all c =
    let s = 512 * c.loop-k.k in
    let turn : (c.same_all.result && same_list (drop (s + 512) c.args.a.now) (drop (s + 512) c.args.b.now)) ≡ same_list c.args.a.now c.args.b.now = same_next c.args.a.now c.args.b.now s 512 _ c.same_all.result (add-sub_cancel_left s 512) c.same_all.ensures (omega arith) (omega arith) ∙ c.loop-k.invariant in
    rw c.if-not-same_all.true at turn

pub loop-k-preserved : goal.loop-k-preserved
loop-k-preserved c =
    let s = 512 * c.loop-k.k in
    let next : 512 * (c.loop-k.k + 1) ≡ s + 512 = omega arith in
    let turn : (c.same_all.result && same_list (drop (s + 512) c.args.a.now) (drop (s + 512) c.args.b.now)) ≡ same_list c.args.a.now c.args.b.now = same_next c.args.a.now c.args.b.now s 512 _ c.same_all.result (add-sub_cancel_left s 512) c.same_all.ensures (omega arith) (omega arith) ∙ c.loop-k.invariant in
    rw next (rw c.if-not-same_all.false at turn)
