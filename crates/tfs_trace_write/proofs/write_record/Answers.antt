use Rattle.std.proofs.Common.{◌≡◌, false, true, ◌&&◌, length}
use Rattle.tfs_spec.specs.Requests.{value, refused}
use Rattle.tfs_trace_write.specs.Halves.{half_fits}
use Rattle.tfs_trace_write.specs.Records.{write-large, write-short, write_done, writes}
use Rattle.tfs_trace_write.proofs.write_record.Goals as goal
use Rattle.tfs_trace_write.proofs.write_record.Goals.{then-not-half_fits-via-then-not-half_fits, then-not-half_fits-via-else-not-half_fits+then-not-half_fits-2}

-- a number of the first half is too large, or of the second
pub returns-then-not-half_fits : goal.returns-then-not-half_fits
returns-then-not-half_fits c =
    let large : half_fits c.call_half-call.result (length c.args.name.now) (length c.args.bytes.now) && half_fits c.expected_half-expected.result (length c.args.name.now) (length c.args.bytes.now) ≡ false =
    elim c.then-not-half_fits.branch [
      | then-not-half_fits-via-then-not-half_fits w ↦
          let no : c.half_fits.result ≡ false = w.if-not-half_fits.true in rw (← c.half_fits.ensures, no)
      | then-not-half_fits-via-else-not-half_fits+then-not-half_fits-2 w ↦
          let yes : c.half_fits.result ≡ true = w.if-not-half_fits.false in
          let no : w.half_fits-else-not-half_fits.result ≡ false = w.if-not-half_fits-2.true in
          rw (← c.half_fits.ensures, yes, ← w.half_fits-else-not-half_fits.ensures, no)
    ] in
    let all = writes (refused 33 0) c.args.out.now
    (write-large c.args.out.now c.args.name.now c.args.bytes.now c.args.draft c.args.refusal c.args.value _ _ c.call_half-call.ensures c.expected_half-expected.ensures large) in
    record { answer = all.answer; buffer = all.buffer }

-- the buffer is too short
pub returns-then-out-end : goal.returns-then-out-end
returns-then-out-end c =
    let all = writes (refused 33 0) c.args.out.now
    (write-short c.args.out.now c.args.name.now c.args.bytes.now c.args.draft c.args.refusal c.args.value _ _
    c.call_half-call.ensures c.expected_half-expected.ensures c.half_size-at.result _ c.half_size-at.ensures.size (rw c.half_size.ensures.size) c.if-out-end.true) in
    record { answer = all.answer; buffer = all.buffer }

pub returns : goal.returns
returns c =
    let one : c.half_fits.result ≡ true = c.if-not-half_fits.false in
    let two : c.half_fits-else-not-half_fits.result ≡ true = c.if-not-half_fits-2.false in
    let all = writes (value _) c.put_half-2.new.out
    (write_done c.args.out.now c.args.name.now c.args.bytes.now c.args.draft c.args.refusal c.args.value _ _
    c.call_half-call.ensures c.expected_half-expected.ensures c.half_size-at.result _ c.half_size-at.ensures.size (rw c.half_size.ensures.size)
    c.put_half.new.out c.put_half-2.new.out c.put_half.ensures c.put_half-2.ensures
    (rw (← c.half_fits.ensures, one, ← c.half_fits-else-not-half_fits.ensures, two)) c.if-out-end.false) in
    record { answer = all.answer; buffer = all.buffer }
