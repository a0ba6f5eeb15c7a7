use mathlib.Core.Path.{ap, subst, ◌∙◌}
use mathlib.Core.List.{List, [], ◌∷◌}
use mathlib.Core.Option.{none}
use Prim.Native.Nat.{ℕ}
use Rattle.std.proofs.lemmas.Result.{err_from_is_err_and}
use Rattle.tfs_spec.specs.Requests.{Outcome, creates, writes, fetch}
use Rattle.timing_spec.specs.Timing.{TIMING, store_room, fetched}
use Rattle.timing.specs.Told.{timing, told_of, Goes}
use Rattle.timing.specs.Answers.{block_refused, block-stands, block-absent}
use Rattle.timing.proofs.store_block.Goals as goal

pub returns-in_err-room_for-clause-answer : goal.returns-in_err-room_for-clause-answer
returns-in_err-room_for-clause-answer c =
    let got = err_from_is_err_and c.from_residual.result c.from_residual.ensures.1 in
    rw (got.1, got.2) (ap (λ (o : Outcome). o.answer) (block_refused c.args.image.now (timing c.args.board c.args.maker c.args.values.now) c.args.k c.args.buf.now _ c.in_err-room_for.ensures.refused (λ x. x)))

pub returns-in_err-room_for-clause-buffer : goal.returns-in_err-room_for-clause-buffer
returns-in_err-room_for-clause-buffer c =
    ap (λ (o : Outcome). o.buffer) (block_refused c.args.image.now (timing c.args.board c.args.maker c.args.values.now) c.args.k c.args.buf.now _ c.in_err-room_for.ensures.refused (λ x. x))

pub returns-in_err-write_store-in-Stands-clause-answer : goal.returns-in_err-write_store-in-Stands-clause-answer
returns-in_err-write_store-in-Stands-clause-answer c =
    let t = timing c.args.board c.args.maker c.args.values.now in
    let room = subst (Goes c.args.image.now c.args.board) c.in-Stands.is c.in_ok-room_for.ensures.place in
    let file = room.2 in
    let of : List ℕ → Outcome = λ l. fetch 512 c.args.image.now (writes TIMING 0 l) c.args.k c.args.buf.now in
    let bytes = c.bytes_of-bytes.ensures in
    let same = block-stands c.args.image.now t c.args.k c.args.buf.now room.0 room.1 file.0 file.1 file.2 in
    let got = err_from_is_err_and c.from_residual-in_err-write_store-in-Stands.result c.from_residual-in_err-write_store-in-Stands.ensures.1 in
    rw (got.1, got.2) (told_of c.in_err-write_store-in-Stands.field-0.0 ∙ c.in_err-write_store-in-Stands.ensures.answer ∙ ap (λ (l : List ℕ). (of l).answer) bytes ∙ ap (λ (o : Outcome). o.answer) same)

pub returns-in_err-write_store-in-Stands-clause-buffer : goal.returns-in_err-write_store-in-Stands-clause-buffer
returns-in_err-write_store-in-Stands-clause-buffer c =
    let t = timing c.args.board c.args.maker c.args.values.now in
    let room = subst (Goes c.args.image.now c.args.board) c.in-Stands.is c.in_ok-room_for.ensures.place in
    let file = room.2 in
    let of : List ℕ → Outcome = λ l. fetch 512 c.args.image.now (writes TIMING 0 l) c.args.k c.args.buf.now in
    let bytes = c.bytes_of-bytes.ensures in
    let same = block-stands c.args.image.now t c.args.k c.args.buf.now room.0 room.1 file.0 file.1 file.2 in
    c.write_store.ensures.buffer ∙ ap (λ (l : List ℕ). (of l).buffer) bytes ∙ ap (λ (o : Outcome). o.buffer) same

pub returns-in_ok-write_store-in-Stands-clause-answer : goal.returns-in_ok-write_store-in-Stands-clause-answer
returns-in_ok-write_store-in-Stands-clause-answer c =
    let t = timing c.args.board c.args.maker c.args.values.now in
    let room = subst (Goes c.args.image.now c.args.board) c.in-Stands.is c.in_ok-room_for.ensures.place in
    let file = room.2 in
    let of : List ℕ → Outcome = λ l. fetch 512 c.args.image.now (writes TIMING 0 l) c.args.k c.args.buf.now in
    let bytes = c.bytes_of-bytes.ensures in
    let same = block-stands c.args.image.now t c.args.k c.args.buf.now room.0 room.1 file.0 file.1 file.2 in
    c.in_ok-write_store-in-Stands.ensures.answer ∙ ap (λ (l : List ℕ). (of l).answer) bytes ∙ ap (λ (o : Outcome). o.answer) same

pub returns-in_ok-write_store-in-Stands-clause-buffer : goal.returns-in_ok-write_store-in-Stands-clause-buffer
returns-in_ok-write_store-in-Stands-clause-buffer c =
    let t = timing c.args.board c.args.maker c.args.values.now in
    let room = subst (Goes c.args.image.now c.args.board) c.in-Stands.is c.in_ok-room_for.ensures.place in
    let file = room.2 in
    let of : List ℕ → Outcome = λ l. fetch 512 c.args.image.now (writes TIMING 0 l) c.args.k c.args.buf.now in
    let bytes = c.bytes_of-bytes.ensures in
    let same = block-stands c.args.image.now t c.args.k c.args.buf.now room.0 room.1 file.0 file.1 file.2 in
    c.write_store.ensures.buffer ∙ ap (λ (l : List ℕ). (of l).buffer) bytes ∙ ap (λ (o : Outcome). o.buffer) same

pub returns-in_err-new_block-in-Absent-clause-answer : goal.returns-in_err-new_block-in-Absent-clause-answer
returns-in_err-new_block-in-Absent-clause-answer c =
    let t = timing c.args.board c.args.maker c.args.values.now in
    let room = subst (Goes c.args.image.now c.args.board) c.in-Absent.is c.in_ok-room_for.ensures.place in
    let of : List ℕ → Outcome = λ l. fetched 512 c.args.image.now (store_room 512 c.args.image.now none) (creates TIMING 64 ∷ writes TIMING 0 l ∷ []) c.args.k c.args.buf.now in
    let bytes = c.bytes_of-bytes.ensures in
    let same = block-absent c.args.image.now t c.args.k c.args.buf.now room.0 room.1 room.2 in
    let got = err_from_is_err_and c.from_residual-in_err-new_block-in-Absent.result c.from_residual-in_err-new_block-in-Absent.ensures.1 in
    rw (got.1, got.2) (told_of c.in_err-new_block-in-Absent.field-0.0 ∙ c.in_err-new_block-in-Absent.ensures.answer ∙ ap (λ (l : List ℕ). (of l).answer) bytes ∙ ap (λ (o : Outcome). o.answer) same)

pub returns-in_err-new_block-in-Absent-clause-buffer : goal.returns-in_err-new_block-in-Absent-clause-buffer
returns-in_err-new_block-in-Absent-clause-buffer c =
    let t = timing c.args.board c.args.maker c.args.values.now in
    let room = subst (Goes c.args.image.now c.args.board) c.in-Absent.is c.in_ok-room_for.ensures.place in
    let of : List ℕ → Outcome = λ l. fetched 512 c.args.image.now (store_room 512 c.args.image.now none) (creates TIMING 64 ∷ writes TIMING 0 l ∷ []) c.args.k c.args.buf.now in
    let bytes = c.bytes_of-bytes.ensures in
    let same = block-absent c.args.image.now t c.args.k c.args.buf.now room.0 room.1 room.2 in
    c.new_block.ensures.buffer ∙ ap (λ (l : List ℕ). (of l).buffer) bytes ∙ ap (λ (o : Outcome). o.buffer) same

pub returns-in_ok-new_block-in-Absent-clause-answer : goal.returns-in_ok-new_block-in-Absent-clause-answer
returns-in_ok-new_block-in-Absent-clause-answer c =
    let t = timing c.args.board c.args.maker c.args.values.now in
    let room = subst (Goes c.args.image.now c.args.board) c.in-Absent.is c.in_ok-room_for.ensures.place in
    let of : List ℕ → Outcome = λ l. fetched 512 c.args.image.now (store_room 512 c.args.image.now none) (creates TIMING 64 ∷ writes TIMING 0 l ∷ []) c.args.k c.args.buf.now in
    let bytes = c.bytes_of-bytes.ensures in
    let same = block-absent c.args.image.now t c.args.k c.args.buf.now room.0 room.1 room.2 in
    c.in_ok-new_block-in-Absent.ensures.answer ∙ ap (λ (l : List ℕ). (of l).answer) bytes ∙ ap (λ (o : Outcome). o.answer) same

pub returns-in_ok-new_block-in-Absent-clause-buffer : goal.returns-in_ok-new_block-in-Absent-clause-buffer
returns-in_ok-new_block-in-Absent-clause-buffer c =
    let t = timing c.args.board c.args.maker c.args.values.now in
    let room = subst (Goes c.args.image.now c.args.board) c.in-Absent.is c.in_ok-room_for.ensures.place in
    let of : List ℕ → Outcome = λ l. fetched 512 c.args.image.now (store_room 512 c.args.image.now none) (creates TIMING 64 ∷ writes TIMING 0 l ∷ []) c.args.k c.args.buf.now in
    let bytes = c.bytes_of-bytes.ensures in
    let same = block-absent c.args.image.now t c.args.k c.args.buf.now room.0 room.1 room.2 in
    c.new_block.ensures.buffer ∙ ap (λ (l : List ℕ). (of l).buffer) bytes ∙ ap (λ (o : Outcome). o.buffer) same
