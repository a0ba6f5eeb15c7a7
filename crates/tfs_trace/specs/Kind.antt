-- The kinds of requests by their numbers.
use Rattle.std.specs.Prelude.{◌≡◌, ◌⊎◌, ℕ, ◌<◌, Result, MatchResult}
use Rattle.tfs_trace.specs.declared.kind.Kind.{Kind}
use Rattle.tfs_trace.specs.declared.kind.Kind.TheVariants.{Create, Remove, Read, Write, Free}
use Rattle.tfs_trace.specs.declared.kind.UnknownKind.{UnknownKind}

abbrev pub number_of : Kind → ℕ
number_of Create = 1
number_of Remove = 2
number_of Read = 3
number_of Write = 4
number_of Free = 5

-- the result is the kind with this number, or the number, which no kind has
abbrev pub Decodes : ℕ → Result Kind UnknownKind → Type 0
Decodes n r = MatchResult r (λ kind. number_of kind ≡ n) (λ e. (e.0 ≡ n) × ((n < 1) ⊎ (5 < n)))
