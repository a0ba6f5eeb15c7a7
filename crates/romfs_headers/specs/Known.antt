-- What a header says of its list.
use Rattle.std.specs.Prelude.{ℕ, Option, Some, None, cond, eqb, List}
use Rattle.romfs_spec.specs.Layout.{info, own, has_list}
use Rattle.romfs_headers.specs.declared.header.List as headers

-- a number, unless it is the one that stands for none
abbrev pub some_unless : ℕ → ℕ → Option ℕ
some_unless none n = cond (eqb n none) None (Some n)

-- the first header of the list of a header at p
abbrev pub first_in : List ℕ → ℕ → Option ℕ
first_in s p = cond (has_list s p) (Some (info s p)) None

-- the list of a header at p in a list with a bound
abbrev pub list_of : List ℕ → ℕ → ℕ → Option headers.List
list_of s bound p = cond (has_list s p) (Some (record { first = info s p; bound = own s bound p })) None
