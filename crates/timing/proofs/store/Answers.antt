use mathlib.Core.Path.{ap, subst, ◌∙◌}
use mathlib.Core.List.{List, [], ◌∷◌}
use mathlib.Core.Option.{none}
use Prim.Native.Nat.{ℕ}
use Rattle.std.proofs.lemmas.Result.{err_from_is_err_and}
use Rattle.tfs_spec.specs.Requests.{write, creates, writes}
use Rattle.timing_spec.specs.Timing.{TIMING, made, store_room}
use Rattle.timing.specs.Told.{timing, told_of, Goes}
use Rattle.timing.specs.Answers.{store-says, store-stays, stands-says, stands-put, absent-says, absent-put}
use Rattle.timing.proofs.store.Goals as goal

pub returns-in_err-room_for-clause-answer : goal.returns-in_err-room_for-clause-answer
returns-in_err-room_for-clause-answer c =
    let got = err_from_is_err_and c.from_residual.result c.from_residual.ensures.1 in
    rw (got.1, got.2) (c.in_err-room_for.ensures.refused ∙ store-says c.args.image.now (timing c.args.board c.args.maker c.args.values.now))

pub returns-in_err-room_for-clause-image : goal.returns-in_err-room_for-clause-image
returns-in_err-room_for-clause-image c =
    store-stays c.args.image.now (timing c.args.board c.args.maker c.args.values.now) _ c.in_err-room_for.ensures.refused (λ x. x)

pub returns-in-Stands-clause-answer : goal.returns-in-Stands-clause-answer
returns-in-Stands-clause-answer c =
    let t = timing c.args.board c.args.maker c.args.values.now in
    let said = subst (Goes c.args.image.now c.args.board) c.in-Stands.is c.in_ok-room_for.ensures.place in
    let file = said.2 in
    stands-says c.args.image.now t said.0 said.1 file.0 file.1 file.2 ∙ store-says c.args.image.now t

pub returns-in-Stands-clause-image : goal.returns-in-Stands-clause-image
returns-in-Stands-clause-image c =
    let t = timing c.args.board c.args.maker c.args.values.now in
    let said = subst (Goes c.args.image.now c.args.board) c.in-Stands.is c.in_ok-room_for.ensures.place in
    let file = said.2 in
    c.put.ensures ∙ ap (λ (l : List ℕ). (write 512 c.args.image.now TIMING 0 l).image) c.bytes_of-bytes.ensures ∙ stands-put c.args.image.now t said.0 said.1 file.0 file.1 file.2

pub returns-in_err-make-in-Absent-clause-answer : goal.returns-in_err-make-in-Absent-clause-answer
returns-in_err-make-in-Absent-clause-answer c =
    let t = timing c.args.board c.args.maker c.args.values.now in
    let said = subst (Goes c.args.image.now c.args.board) c.in-Absent.is c.in_ok-room_for.ensures.place in
    let got = err_from_is_err_and c.from_residual-in_err-make-in-Absent.result c.from_residual-in_err-make-in-Absent.ensures.1 in
    rw (got.1, got.2) (told_of c.in_err-make-in-Absent.field-0.0 ∙ c.in_err-make-in-Absent.ensures.answer ∙ absent-says c.args.image.now t said.0 said.1 said.2 ∙ store-says c.args.image.now t)

pub returns-in_err-make-in-Absent-clause-image : goal.returns-in_err-make-in-Absent-clause-image
returns-in_err-make-in-Absent-clause-image c =
    let t = timing c.args.board c.args.maker c.args.values.now in
    let said = subst (Goes c.args.image.now c.args.board) c.in-Absent.is c.in_ok-room_for.ensures.place in
    c.make.ensures.image ∙ ap (λ (l : List ℕ). (made 512 c.args.image.now (store_room 512 c.args.image.now none) (creates TIMING 64 ∷ writes TIMING 0 l ∷ [])).image) c.bytes_of-bytes.ensures ∙ absent-put c.args.image.now t said.0 said.1 said.2

pub returns-in_ok-make-in-Absent-clause-answer : goal.returns-in_ok-make-in-Absent-clause-answer
returns-in_ok-make-in-Absent-clause-answer c =
    let t = timing c.args.board c.args.maker c.args.values.now in
    let said = subst (Goes c.args.image.now c.args.board) c.in-Absent.is c.in_ok-room_for.ensures.place in
    c.in_ok-make-in-Absent.ensures.answer ∙ absent-says c.args.image.now t said.0 said.1 said.2 ∙ store-says c.args.image.now t

pub returns-in_ok-make-in-Absent-clause-image : goal.returns-in_ok-make-in-Absent-clause-image
returns-in_ok-make-in-Absent-clause-image c =
    let t = timing c.args.board c.args.maker c.args.values.now in
    let said = subst (Goes c.args.image.now c.args.board) c.in-Absent.is c.in_ok-room_for.ensures.place in
    c.make.ensures.image ∙ ap (λ (l : List ℕ). (made 512 c.args.image.now (store_room 512 c.args.image.now none) (creates TIMING 64 ∷ writes TIMING 0 l ∷ [])).image) c.bytes_of-bytes.ensures ∙ absent-put c.args.image.now t said.0 said.1 said.2
