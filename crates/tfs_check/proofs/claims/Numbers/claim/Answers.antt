use Rattle.std.proofs.Common.{◌≡◌, ℕ, ◌≤◌, ◌<◌, rules, arith, not, sym, ap, ◌∙◌}
use native.Mathlib.Decide.{dec_lt}
use Rattle.tfs_spec.specs.Layout.{set_bits, inode_number}
use Rattle.tfs_inode.specs.Wrong.{listed-wrong}
use Rattle.tfs_check.specs.Doubled.{numbers_to, doubled, marked-none, twice-none}
use Rattle.tfs_check.specs.Found.{range-right, number-right, listed_found, listed-none}
use Rattle.tfs_check.proofs.claims.Numbers.claim.Goals as goal

pub loop-k-init : goal.loop-k-init
loop-k-init c =
    record { listed = search rules; right = λ i h. absurd (omega arith); small = search rules; marked = c.of-taken.ensures.held ∙ marked-none _ _; twice = twice-none _ _ _ }

pub returns-then-not-in_volume : goal.returns-then-not-in_volume
returns-then-not-in_volume c =
    let listed = c.args.self.now.counted in
    listed_found _ _ _ c.loop-k.k (search rules) c.loop-k.invariant.right
    (sym (listed-wrong _ _ c.loop-k.k (omega arith)) ∙ ap not (sym c.in_volume.ensures ∙ c.if-not-in_volume.true))

pub loop-k-preserved : goal.loop-k-preserved
loop-k-preserved c =
    let b = inode_number c.args.self.now.ino.bytes.now c.loop-k.k in
    let range : (3 ≤ b) × (b < c.args.self.now.n) = range-right _ _ _ c.in_volume.ensures (ap not c.if-not-in_volume.false) in
    let turn = c.claim_next-turn.ensures in
    let row : c.moved-taken.result.row < 512 = omega arith in
    let same = c.moved-taken.ensures.held ∙ c.loop-k.invariant.marked in
    record {
      listed = turn.listed;
      right =
          λ i h.
          elim (dec_lt i c.loop-k.k) [
            | yes l ↦ c.loop-k.invariant.right i l
            | no l ↦ number-right _ _ i (omega (arith, c.args.self.now.counted, turn.listed)) (turn.right i (omega arith) h)
          ];
      small = row;
      marked = turn.marked _ _ _ c.moved-taken.ensures.row (search rules) row same;
      twice = turn.lowest _ _ _ _ c.moved-taken.ensures.row (search rules) row same c.loop-k.invariant.twice;
    }

pub returns : goal.returns
returns c =
    let all : c.loop-k.k ≡ c.args.self.now.count = omega arith in (
      listed-none _ _ _ c.loop-k.k c.loop-k.invariant.listed c.loop-k-test.false c.loop-k.invariant.right,
      c.put.ensures ∙ c.loop-k.invariant.marked ∙ ap (λ (n : ℕ). set_bits c.args.owned.now 1 (numbers_to c.args.self.now.ino.bytes.now n)) all,
      c.loop-k.invariant.twice ∙ ap (λ (n : ℕ). doubled c.args.owned.now (numbers_to c.args.self.now.ino.bytes.now n) c.args.low) all,
    )
