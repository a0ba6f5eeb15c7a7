-- What was read, piece by piece.
use Rattle.std.proofs.Common.{◌≡◌, ℕ, Bool, ◌&&◌, rules, eqb, ap, IfOk, Result, Ok, Err, ◌∙◌}
use Rattle.lists.specs.Lists.{same_list}
use Rattle.packed.specs.Cases.{same_outcome}
use Rattle.reading.proofs.Ends.{end_of_more}
use Rattle.packed.proofs.cases.Case.comes_out.Goals as goal

IfOk-of : {A E : Type 0} (P Q : A → Type 0) (r : Result A E) → ((x : A) → P x → Q x) → IfOk r P → IfOk r Q
IfOk-of P Q (Ok x) f h = f x h
IfOk-of P Q (Err e) f h = h

pub returns-clause-right : goal.returns-clause-right
returns-clause-right g c =
    let remaining = g.R.Read.remaining in
    let want = c.in_ok-want.want in
    let content = c.in_ok-content.content.now in
    let left = c.in_ok-left.field-0 in
    let told : c.eq-told.result ≡ same_list c.args.text.now content = search rules in
    let right_of = λ (t : Bool) (h : ℕ). same_outcome want c.args.got && t && eqb left h in
    IfOk-of _ _ c.judged.result
    (λ right e. (remaining c.expected.new.input, remaining c.bytes.new.input, want, content, left, c.in_ok-want.ensures.lost, c.in_ok-content.ensures.lost, c.in_ok-left.ensures.lost, e ∙ ap (λ t. right_of t c.hash_both.result) told ∙ ap (right_of (same_list c.args.text.now content)) c.hash_both.ensures))
    c.judged.ensures

pub returns-in_err-content-clause-left : goal.returns-in_err-content-clause-left
returns-in_err-content-clause-left g c = search (end_of_more)

pub returns-in_err-left-clause-left : goal.returns-in_err-left-clause-left
returns-in_err-left-clause-left g c = search (end_of_more)

pub returns-clause-left : goal.returns-clause-left
returns-clause-left g c = search (end_of_more)
