use Rattle.std.proofs.Common.{rules, arith}
use Rattle.tfs_spec.specs.Traces.{of-create, of-remove, of-read, of-write, of-count, of-refusal}
use Rattle.tfs_trace.proofs.Cursor.expected.Goals as goal

pub returns-then-not-granted-clause-fits : goal.returns-then-not-granted-clause-fits
returns-then-not-granted-clause-fits c = (tt, of-refusal _ _ (λ z. omega arith), tt)

pub returns-in-Create-clause-fits : goal.returns-in-Create-clause-fits
returns-in-Create-clause-fits c = rw c.in-Create.is (tt, of-create _ _, tt)

pub returns-in-Remove-clause-fits : goal.returns-in-Remove-clause-fits
returns-in-Remove-clause-fits c = rw c.in-Remove.is (tt, of-remove _, tt)

pub returns-in_ok-bytes-in-Read-clause-fits : goal.returns-in_ok-bytes-in-Read-clause-fits
returns-in_ok-bytes-in-Read-clause-fits c = rw c.in-Read.is (search rules, of-read _ _ _ _, search rules)

pub returns-in_ok-count-in-Write-clause-fits : goal.returns-in_ok-count-in-Write-clause-fits
returns-in_ok-count-in-Write-clause-fits c = rw c.in-Write.is (tt, of-write _ _ _ _, tt)

pub returns-in_ok-free-in-Free-clause-fits : goal.returns-in_ok-free-in-Free-clause-fits
returns-in_ok-free-in-Free-clause-fits c = rw c.in-Free.is (tt, of-count _, tt)
