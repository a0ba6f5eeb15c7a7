use mathlib.Core.Path.{sym, ◌∙◌}
use native.Mathlib.Omega.{arith}
use Rattle.tfs_map.specs.Words.{held_from, word_fits}
use Rattle.tfs_map.proofs.room.held_from.Goals as goal

pub returns-then-word_held : goal.returns-then-word_held
unfolding held_from
returns-then-word_held c =
    let held = sym c.word_held.ensures ∙ c.if-word_held.true in
    (rw held, word_fits c.args.map.now c.args.b c.args.n held)

pub returns-then-map_bit : goal.returns-then-map_bit
unfolding held_from
returns-then-map_bit c = (rw (← c.word_held.ensures, c.if-word_held.false, ← c.map_bit.ensures, c.if-map_bit.true), omega arith)

pub returns : goal.returns
unfolding held_from
returns c = (rw (← c.word_held.ensures, c.if-word_held.false, ← c.map_bit.ensures, c.if-map_bit.false), omega arith)
