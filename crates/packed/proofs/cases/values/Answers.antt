-- A value that is put leaves those before it.
use Rattle.std.proofs.Common.{◌≡◌, ◌≢◌, ◌≤◌, ℕ, zero, suc, List, set, get_or, subst, sym, arith, rules, add-one, get_or-set_other, get_or-set_same, le_refl}
use Rattle.std.specs.Prelude.{Option}
use Rattle.packed.specs.Cases.{ReadsValue, ReadsValues}
use Rattle.reading.proofs.Ends.{end_of_same, end_of_more}
use Rattle.packed.proofs.cases.values.Goals as goal

values_kept : (old new : Option (List ℕ)) (count n k v : ℕ) (values : List ℕ) → n ≤ k → ReadsValues old new count n values → ReadsValues old new count n (set values k v)
values_kept old new count zero k v values le p = p
values_kept old new count (suc n) k v values le (mid, before, here) =
    let other : n ≢ k = omega arith in
    let same : get_or (set values k v) n 0 ≡ get_or values n 0 = search (get_or-set_other) in
    (mid, values_kept old mid count n k v values (omega arith) before, subst (ReadsValue mid new n count) (sym same) here)

pub loop-k-init : goal.loop-k-init
loop-k-init g c = record { long = search rules; lost = search rules; left = end_of_same _ }

pub returns-in_err-values-clause-left : goal.returns-in_err-values-clause-left
returns-in_err-values-clause-left g c = search (end_of_more)

pub loop-k-preserved : goal.loop-k-preserved
loop-k-preserved g c =
    let k = c.loop-k.k in
    let put : get_or (set c.loop-k.values k c.in_ok-values.field-0) k 0 ≡ c.in_ok-values.field-0 = get_or-set_same c.loop-k.values k c.in_ok-values.field-0 0 (omega (arith, c.loop-k.invariant.long, c.loop-k-test.true)) in
    record {
      long = search rules;
      lost = rw add-one (_, values_kept _ _ _ k k _ _ (le_refl k) c.loop-k.invariant.lost, subst (ReadsValue _ _ k c.args.count) (sym put) c.in_ok-values.ensures.lost);
      left = search (end_of_more);
    }
