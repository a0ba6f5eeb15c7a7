-- The end of an end is an end.
use Rattle.std.proofs.Common.{ℕ, List, []}
use Rattle.std.specs.Prelude.{Option}
use Rattle.std.specs.Io.KnownBytes.{Consumes, Keeps}
use Rattle.std.proofs.KnownBytes.{Consumes-nil, Consumes-trans, Consumes-kept}
use Rattle.reading.specs.Input.{EndOf}

pub end_of_same : (a : Option (List ℕ)) → EndOf a a
unfolding EndOf
end_of_same a = ([], Consumes-nil a)

pub end_of_more : (a b c : Option (List ℕ)) → EndOf a b → EndOf b c → EndOf a c
unfolding EndOf
end_of_more a b c p q = (_, Consumes-trans a b c p.0 q.0 p.1 q.1)

pub end_of_lost : (a b : Option (List ℕ)) (bs : List ℕ) → Consumes a b bs → EndOf a b
unfolding EndOf
end_of_lost a b bs p = (bs, p)

pub end_of_kept : (a b c : Option (List ℕ)) (bs : List ℕ) → Consumes a b bs → Keeps b c → EndOf a c
unfolding EndOf
end_of_kept a b c bs p q = (bs, Consumes-kept a b c bs p q)
