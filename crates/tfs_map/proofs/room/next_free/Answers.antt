use mathlib.Core.Path.{sym, ◌∙◌}
use Rattle.tfs_map.specs.Free.{next-end, next_here}
use Rattle.tfs_map.specs.Words.{next-held, held_none}
use Rattle.std.proofs.Common.{rules}
use Rattle.tfs_map.proofs.room.next_free.Goals as goal

pub returns-then-held-eq0 : goal.returns-then-held-eq0
returns-then-held-eq0 c =
    let unheld = held_none c.args.map.now c.loop-b.b c.args.n (search rules) (sym c.held_from-held.ensures.0 ∙ c.if-held-eq0.true) in
    (sym (next_here c.args.map.now c.loop-b.b c.args.n (search rules) unheld) ∙ c.loop-b.invariant.1, search rules)

pub loop-b-preserved : goal.loop-b-preserved
loop-b-preserved c =
    (search rules, rw c.held_from-held.ensures.0 (next-held c.args.map.now c.loop-b.b c.args.n (search rules) ∙ c.loop-b.invariant.1))

pub returns : goal.returns
returns c =
    (sym (next-end c.args.map.now c.loop-b.b c.args.n c.loop-b-test.false) ∙ c.loop-b.invariant.1, search rules)
