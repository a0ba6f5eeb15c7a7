-- What find, entry and content answer. Each checks the image first.
use Rattle.std.specs.Prelude.{ℕ, zero, suc, ◌+◌, Bool, cond, ◌&&◌, ◌||◌, List, [], eqb}
use Rattle.lists.specs.Lists.{same_list, part}
use Rattle.romfs_spec.specs.Layout.{full_size, first_root, name_length, type_of_file, executable, next, info, size, name, content_at, has_data}
use Rattle.romfs_spec.specs.Check.{Verdict, accepted, broken, is_reached, check}

pub data Answer (A : Type 0) : Type 0 where
  granted : A → Answer A
  -- number and place
  refused : ℕ → ℕ → Answer A

-- Each other request checks the image first, and gives its refusal.
abbrev pub checked : {A : Type 0} → Verdict → Answer A → Answer A
checked accepted a = a
checked (broken n p) a = refused n p

-- ---- find
-- where the list of a directory begins: what its first-header word leads to; directory 0 is the root list, and 0 as the result an empty list
unfoldable pub first_of : List ℕ → ℕ → ℕ
first_of s dir = cond (eqb dir 0) (cond (eqb (first_root s) (full_size s)) 0 (first_root s)) (info s dir)

-- the first match from p on along next, or 0; the number is fuel
unfoldable pub match_from : List ℕ → List ℕ → ℕ → ℕ → ℕ
match_from s want zero p = 0
match_from s want (suc fuel) p = cond (same_list (name s p) want) p (cond (eqb (next s p) 0) 0 (match_from s want fuel (next s p)))

unfoldable pub match_in : List ℕ → List ℕ → ℕ → ℕ
match_in s want first = cond (eqb first 0) 0 (match_from s want (full_size s) first)

-- the root list, or a reached directory
unfoldable pub is_directory : List ℕ → ℕ → Bool
is_directory s dir = eqb dir 0 || (is_reached s dir && eqb (type_of_file s dir) 1)

-- the first match's header offset; 31: not a reached header or not a directory; 30: name not in that list
unfoldable pub find_step : List ℕ → ℕ → List ℕ → Answer ℕ
find_step s dir want =
    let at : ℕ = match_in s want (first_of s dir) in
    cond (is_directory s dir) (cond (eqb at 0) (refused 30 0) (granted at)) (refused 31 0)

unfoldable pub find : List ℕ → ℕ → List ℕ → Answer ℕ
find s dir want = checked (check s) (find_step s dir want)

-- ---- entry
pub record Entry : Type 0 where
  pub type_of_file : ℕ
  pub executable : ℕ
  pub info : ℕ
  pub size : ℕ
  pub next : ℕ
  pub name_length : ℕ

-- type, executable, spec.info, size, next and name length
unfoldable pub entry_at : List ℕ → ℕ → Entry
entry_at s p = record {
  type_of_file = type_of_file s p;
  executable = executable s p;
  info = info s p;
  size = size s p;
  next = next s p;
  name_length = name_length s (p + 16);
}

-- 31: not a reached header
unfoldable pub entry_step : List ℕ → ℕ → Answer Entry
entry_step s p = cond (is_reached s p) (granted (entry_at s p)) (refused 31 0)

unfoldable pub entry : List ℕ → ℕ → Answer Entry
entry s p = checked (check s) (entry_step s p)

-- ---- content
-- the length; 31: not a reached header, or not type 2 or 3
unfoldable pub content_step : List ℕ → ℕ → Answer ℕ
content_step s p = cond (is_reached s p && has_data (type_of_file s p)) (granted (size s p)) (refused 31 0)

unfoldable pub content_length : List ℕ → ℕ → Answer ℕ
content_length s p = checked (check s) (content_step s p)

abbrev pub part_of : List ℕ → ℕ → Answer ℕ → List ℕ
part_of s at (granted n) = part at n s
part_of s at (refused n p) = []

-- that part of the image; an empty part where it is refused
unfoldable pub content : List ℕ → ℕ → List ℕ
content s p = part_of s (content_at s p) (content_length s p)

-- at, where a length is answered; 0 where it is refused
abbrev pub start_of : ℕ → Answer ℕ → ℕ
start_of at (granted n) = at
start_of at (refused n p) = 0

-- where that part begins: at the padded name's end; at 0 where it is refused
unfoldable pub content_start : List ℕ → ℕ → ℕ
content_start s p = start_of (content_at s p) (content_length s p)
