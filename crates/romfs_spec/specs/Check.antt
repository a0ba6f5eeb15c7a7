-- Rules 21 to 29 and the check: 21 to 25, the walk with 26 to 28, then 29.
use Rattle.std.specs.Prelude.{ℕ, zero, suc, ◌+◌, ◌-◌, ◌/◌, ◌%◌, min, Bool, true, false, not, cond, ◌&&◌, ◌||◌, List, [], ◌∷◌, length, leb, ltb, eqb}
use Rattle.lists.specs.Lists.{same_list, least, part}
use Rattle.romfs_spec.specs.Layout.{full_size, name_length, name_ends, first_root, type_of_file, next, info, size, content_at, end_of, own, is_dots, descends, has_list, has_data, sum_of_words}

pub data Verdict : Type 0 where
  accepted : Verdict
  -- number and place
  broken : ℕ → ℕ → Verdict

-- 21: slice under 32 bytes
unfoldable pub too_short : List ℕ → Bool
too_short s = ltb (length s) 32

-- 22: first eight bytes are not "-rom1fs-"
unfoldable pub bad_magic : List ℕ → Bool
bad_magic s = not (same_list (part 0 8 s) (0x2D ∷ 0x72 ∷ 0x6F ∷ 0x6D ∷ 0x31 ∷ 0x66 ∷ 0x73 ∷ 0x2D ∷ []))

-- 23: F under 32, over the slice, or no multiple of 16
unfoldable pub bad_full_size : List ℕ → Bool
bad_full_size s = ltb (full_size s) 32 || (ltb (length s) (full_size s) || not (eqb (full_size s % 16) 0))

-- 24: volume sum, over the first min(512, F) bytes, not 0
unfoldable pub bad_volume_sum : List ℕ → Bool
bad_volume_sum s = not (eqb (sum_of_words s 0 (min 512 (full_size s) / 4)) 0)

-- 25: volume name has no end within F
unfoldable pub bad_volume_name : List ℕ → Bool
bad_volume_name s = not (name_ends s 16)

-- ---- a header at p in a list with its bound and its depth
-- 26: end over the bound,
unfoldable pub over_bound : List ℕ → ℕ → ℕ → Bool
over_bound s bound p = ltb bound (end_of s p)

-- empty or endless name,
unfoldable pub bad_name : List ℕ → ℕ → Bool
bad_name s p = eqb (name_length s (p + 16)) 0 || not (name_ends s (p + 16))

-- sum, over 16 bytes and the padded name,
unfoldable pub bad_sum : List ℕ → ℕ → Bool
bad_sum s p = not (eqb (sum_of_words s p ((content_at s p - p) / 4)) 0)

-- spec.info not 0 for types 2, 3, 6, 7,
unfoldable pub bad_info : List ℕ → ℕ → Bool
bad_info s p = (eqb (type_of_file s p) 2 || (eqb (type_of_file s p) 3 || (eqb (type_of_file s p) 6 || eqb (type_of_file s p) 7))) && not (eqb (info s p) 0)

-- or size not 0 for types other than 2 and 3
unfoldable pub bad_size : List ℕ → ℕ → Bool
bad_size s p = not (has_data (type_of_file s p)) && not (eqb (size s p) 0)

unfoldable pub bad_header : List ℕ → ℕ → ℕ → Bool
bad_header s bound p = over_bound s bound p || (bad_name s p || (bad_sum s p || (bad_info s p || bad_size s p)))

-- 27: next is not 0, and under E or not under the bound;
unfoldable pub bad_next : List ℕ → ℕ → ℕ → Bool
bad_next s bound p = not (eqb (next s p) 0) && (ltb (next s p) (end_of s p) || leb bound (next s p))

-- a first header is not 0, and no multiple of 16, under E or not under the entry's own bound
unfoldable pub bad_first : List ℕ → ℕ → ℕ → Bool
bad_first s bound p = has_list s p && (not (eqb (info s p % 16) 0) || (ltb (info s p) (end_of s p) || leb (own s bound p) (info s p)))

unfoldable pub bad_nesting : List ℕ → ℕ → ℕ → Bool
bad_nesting s bound p = bad_next s bound p || bad_first s bound p

-- 28: its list would have an entry at depth 9
unfoldable pub too_deep : List ℕ → ℕ → ℕ → Bool
too_deep s depth p = has_list s p && leb 8 depth

-- at an entry 26, 27, 28 in that order
unfoldable pub fault : List ℕ → ℕ → ℕ → ℕ → Verdict
fault s bound depth p =
    cond (bad_header s bound p) (broken 26 p)
    (cond (bad_nesting s bound p) (broken 27 p)
    (cond (too_deep s depth p) (broken 28 p) accepted))

-- the first refusal of two
abbrev pub and_then : Verdict → Verdict → Verdict
and_then accepted v = v
and_then (broken n p) v = broken n p

-- A list visits its entries, from p on. The number is fuel; the bytes from p up to the list's bound are enough of it.
unfoldable pub visit_list : List ℕ → (ℕ → Verdict) → ℕ → ℕ → Verdict
visit_list s entry zero p = accepted
visit_list s entry (suc fuel) p = and_then (entry p) (cond (eqb (next s p) 0) accepted (visit_list s entry fuel (next s p)))

-- The walk visits an entry, its list, then next. left is how many lists may be below this one; the root is depth 1, the deepest list 8.
unfoldable pub visit_entry : List ℕ → (ℕ → ℕ → ℕ → Verdict) → ℕ → ℕ → ℕ → Verdict
visit_entry s test zero bound p = test bound 8 p
visit_entry s test (suc left) bound p =
    and_then (test bound (7 - left) p)
    (cond (has_list s p) (visit_list s (visit_entry s test left (own s bound p)) (own s bound p - info s p) (info s p)) accepted)

-- the root list and all below it down to the eighth, each entry tested with its bound, its depth and its offset
unfoldable pub visit_all : List ℕ → (ℕ → ℕ → ℕ → Verdict) → Verdict
visit_all s test =
    cond (eqb (first_root s) (full_size s)) accepted
    (visit_list s (visit_entry s test 7 (full_size s)) (full_size s - first_root s) (first_root s))

unfoldable pub walk : List ℕ → Verdict
walk s = visit_all s (fault s)

-- whether an offset is not 0 and at most want
unfoldable pub leads : ℕ → ℕ → Bool
leads to want = not (eqb to 0) && leb to want

-- where the path to want goes on from p, since offsets rise along the walk: to next, to the first header of p's list, or nowhere (0)
unfoldable pub towards : List ℕ → ℕ → ℕ → ℕ
towards s want p =
    cond (leads (next s p) want) (next s p)
    (cond (descends s p && leads (info s p) want) (info s p) 0)

-- Whether want is a reached header, where every reached header is sound, by going down one path. The number is fuel.
unfoldable pub seek : List ℕ → ℕ → ℕ → ℕ → Bool
seek s want zero p = false
seek s want (suc fuel) p = cond (eqb want p) true (cond (eqb (towards s want p) 0) false (seek s want fuel (towards s want p)))

unfoldable pub is_reached : List ℕ → ℕ → Bool
is_reached s want = cond (eqb (first_root s) (full_size s)) false (seek s want (full_size s) (first_root s))

-- 29: a hard link's spec.info is not a reached header of another type than 0, or that of a directory named "." or ".." is not a reached header
unfoldable pub bad_link : List ℕ → ℕ → Bool
bad_link s p =
    (eqb (type_of_file s p) 0 && not (is_reached s (info s p) && not (eqb (type_of_file s (info s p)) 0)))
    || ((eqb (type_of_file s p) 1 && is_dots s p) && not (is_reached s (info s p)))

-- .. the lowest such header
unfoldable pub links : List ℕ → Verdict
links s =
    let at : ℕ = least (λ p. is_reached s p && bad_link s p) (full_size s) in
    cond (ltb at (full_size s)) (broken 29 at) accepted

-- 21 to 25, in order
unfoldable pub volume : List ℕ → Verdict
volume s =
    cond (too_short s) (broken 21 0)
    (cond (bad_magic s) (broken 22 0)
    (cond (bad_full_size s) (broken 23 0)
    (cond (bad_volume_sum s) (broken 24 0)
    (cond (bad_volume_name s) (broken 25 0) accepted))))

unfoldable pub check : List ℕ → Verdict
check s = and_then (volume s) (and_then (walk s) (links s))
