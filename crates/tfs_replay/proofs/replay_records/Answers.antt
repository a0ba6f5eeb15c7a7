use Rattle.std.proofs.Common.{rules, refl, ◌∙◌, arith}
use Rattle.tfs_replay.proofs.Records.{from_start, replay_end, replay_malformed, replay_differs, replay_next, comes}
use Rattle.tfs_replay.proofs.replay_records.Goals as goal

pub loop-cursor-init : goal.loop-cursor-init
loop-cursor-init c = (search rules, search rules, refl, c.requires, from_start c.args.trace.now c.args.image.now)

pub returns-in_default : goal.returns-in_default
returns-in_default c =
    let none = rw c.loop-cursor.invariant.2 at c.in_default.ensures.value in
    let all = comes c.args.trace.now c.args.image.now _ _ (c.loop-cursor.invariant.4 ∙ replay_malformed c.args.trace.now c.loop-cursor.image c.loop-cursor.done c.loop-cursor.cursor.at c.loop-cursor-test.true none) in
    record { result = all.result; image = all.image }

pub returns-then-not-run_record : goal.returns-then-not-run_record
returns-then-not-run_record c =
    let is_read = rw c.loop-cursor.invariant.2 at c.in-Some.ensures.value in
    let all = comes c.args.trace.now c.args.image.now _ _
    (c.loop-cursor.invariant.4 ∙ replay_differs c.args.trace.now c.loop-cursor.image c.loop-cursor.done c.loop-cursor.cursor.at c.loop-cursor-test.true _ _ is_read c.run_record.result c.run_record.ensures.agrees c.run_record.new.image c.run_record.ensures.image c.if-not-run_record.true) in
    record { result = all.result; image = all.image }

pub loop-cursor-preserved : goal.loop-cursor-preserved
loop-cursor-preserved c =
    let is_read = rw c.loop-cursor.invariant.2 at c.in-Some.ensures.value in
    let onward = rw c.loop-cursor.invariant.2 at c.in-Some.ensures.onward in (
      onward.1,
      omega (arith, onward.0),
      rw c.in-Some.ensures.trace c.loop-cursor.invariant.2,
      c.run_record.ensures.stays,
      c.loop-cursor.invariant.4 ∙ replay_next c.args.trace.now c.loop-cursor.image c.loop-cursor.done c.loop-cursor.cursor.at c.loop-cursor-test.true _ _ is_read c.run_record.result c.run_record.ensures.agrees c.run_record.new.image c.run_record.ensures.image c.if-not-run_record.false,
    )

pub returns : goal.returns
returns c =
    let all = comes c.args.trace.now c.args.image.now _ _ (c.loop-cursor.invariant.4 ∙ replay_end c.args.trace.now c.loop-cursor.image c.loop-cursor.done c.loop-cursor.cursor.at c.loop-cursor-test.false) in
    record { result = all.result; image = all.image }
