-- The statements about romfs: layout, check, requests. The worked image of the rules is in the crate starred.
use Rattle.std.specs.Prelude.{ℕ, suc, ◌+◌, ◌*◌, ◌%◌, ◌^◌, ◌≤◌, ◌<◌, max, ◌≡◌, ◌≢◌, ◌⊎◌, ◌↔◌, true, List, [], length, take, drop}
use Rattle.lists.specs.Lists.{sum}
use Rattle.romfs_spec.specs.Layout as layout
use Rattle.romfs_spec.specs.Layout.{pad16}
use Rattle.romfs_spec.specs.Check.{accepted, broken, check}
use Rattle.romfs_spec.specs.Requests.{Answer, granted, refused, find, Entry, entry, content_length, content, content_start}
use Rattle.romfs_spec.specs.Accepted.{number_at, full, SomeZero, ZeroAfter, LongEnough, RightMagic, RightFullSize, RightVolumeSum, SoundVolume, type_at, executable_at, next_at, info_at, size_at, data_at, end_at, Named, HasList, OwnBound, SoundHeader, Nested, Shallow, Sound, RootFirst, Reached, IsReached, Linked, Accepted}

-- ---- layout
pub record LayoutLaws (s : List ℕ) : Type 0 where
  -- the least multiple of 16 from n on
  pub padded : (n : ℕ) → (pad16 n % 16 ≡ 0) × (n ≤ pad16 n) × (pad16 n < n + 16)
  -- A name has an end exactly when some byte up to F - 1 is zero, and its length is the number of bytes before the first.
  pub name-ends : (p : ℕ) → (layout.name_ends s p ≡ true) ↔ SomeZero s p
  pub name-length : (p n : ℕ) → ((layout.name_ends s p ≡ true) × (layout.name_length s p ≡ n)) ↔ ZeroAfter s p n
  pub word_sum : (p n : ℕ) → layout.sum_of_words s p n ≡ sum (λ i. number_at s (p + 4 * i)) n % 2 ^ 32
  -- a header by its bytes: its words,
  pub file_type : (p : ℕ) → layout.type_of_file s p ≡ type_at s p
  pub executable : (p : ℕ) → layout.executable s p ≡ executable_at s p
  pub next : (p : ℕ) → layout.next s p ≡ next_at s p
  pub info : (p : ℕ) → layout.info s p ≡ info_at s p
  pub size : (p : ℕ) → layout.size s p ≡ size_at s p
  -- and, where its name has n bytes and an end, its name and its data
  pub name : (p n : ℕ) → ZeroAfter s (p + 16) n → layout.name s p ≡ take n (drop (p + 16) s)
  pub content-at : (p n : ℕ) → ZeroAfter s (p + 16) n → layout.content_at s p ≡ data_at p n
  pub end-of : (p n : ℕ) → ZeroAfter s (p + 16) n → layout.end_of s p ≡ end_at s p n

-- ---- refusals
-- a header that sound headers lead to
pub data Met (s : List ℕ) : ℕ → ℕ → ℕ → Type 0 where
  root : {p : ℕ} → RootFirst s p → p ≢ full s → Met s p (full s) 1
  along : {p bound depth : ℕ} → Met s p bound depth → Sound s p bound depth → next_at s p ≢ 0 → Met s (next_at s p) bound depth
  inside : {p bound depth own : ℕ} → Met s p bound depth → Sound s p bound depth → HasList s p → OwnBound s p bound own → Met s (info_at s p) own (suc depth)

-- the fault of a header: 26, 27, 28 in that order
pub data HeaderFault (s : List ℕ) (p bound depth : ℕ) : ℕ → Type 0 where
  at26 : ((n : ℕ) → SoundHeader s p n bound → ⊥) → HeaderFault s p bound depth 26
  at27 : {n : ℕ} → SoundHeader s p n bound → (Nested s p n bound → ⊥) → HeaderFault s p bound depth 27
  at28 : {n : ℕ} → SoundHeader s p n bound → Nested s p n bound → (Shallow s p depth → ⊥) → HeaderFault s p bound depth 28

-- the lowest header at fault among those that sound headers lead to
pub record FirstFault (s : List ℕ) (num p : ℕ) : Type 0 where
  pub bound : ℕ
  pub depth : ℕ
  pub met : Met s p bound depth
  pub fault : HeaderFault s p bound depth num
  pub lower : {q b d : ℕ} → Met s q b d → q < p → Sound s q b d

-- the lowest reached header with a bad link
pub record FirstLink (s : List ℕ) (p : ℕ) : Type 0 where
  pub reached : IsReached s p
  pub fault : Linked s p → ⊥
  pub lower : {q : ℕ} → IsReached s q → q < p → Linked s q

-- 21 to 28 are not broken, whatever 29 says
abbrev pub Walked : List ℕ → Type 0
Walked s = SoundVolume s × ((p b d : ℕ) → Reached s p b d → Sound s p b d)

-- when a refusal is given, with its number and its place
pub data Refused (s : List ℕ) : ℕ → ℕ → Type 0 where
  at21 : (LongEnough s → ⊥) → Refused s 21 0
  at22 : LongEnough s → (RightMagic s → ⊥) → Refused s 22 0
  at23 : LongEnough s → RightMagic s → (RightFullSize s → ⊥) → Refused s 23 0
  at24 : LongEnough s → RightMagic s → RightFullSize s → (RightVolumeSum s → ⊥) → Refused s 24 0
  at25 : LongEnough s → RightMagic s → RightFullSize s → RightVolumeSum s → (SomeZero s 16 → ⊥) → Refused s 25 0
  -- 26, 27, 28
  at-header : {num p : ℕ} → SoundVolume s → FirstFault s num p → Refused s num p
  -- after the walk
  at-link : {p : ℕ} → Walked s → FirstLink s p → Refused s 29 p

pub record CheckLaws (s : List ℕ) : Type 0 where
  -- The check accepts exactly the accepted images, and gives each refusal exactly when the rules do.
  pub accepts : (check s ≡ accepted) ↔ Accepted s
  pub refuses : (num p : ℕ) → (check s ≡ broken num p) ↔ Refused s num p
  -- A reached header lies before its list's bound, which for an inner list is its directory's next or an outer bound, which is at most F.
  pub lies : (p b d : ℕ) → Walked s → Reached s p b d → (32 ≤ p) × (p % 16 ≡ 0) × (p < b) × (b ≤ full s)
  -- The nesting rules out loops: next and a list that is descended to lie further on,
  pub rises : (p b d : ℕ) → Walked s → Reached s p b d → (next_at s p ≢ 0 → p < next_at s p) × (HasList s p → p < info_at s p)
  -- a header is reached with one bound and one depth, and the deepest list is 8.
  pub once : (p b d c e : ℕ) → Walked s → Reached s p b d → Reached s p c e → (b ≡ c) × (d ≡ e)
  pub deep : (p b d : ℕ) → Walked s → Reached s p b d → d ≤ 8

-- ---- requests
-- When a request gives an answer: Fits is what it asks of its offset, Says what it answers where that holds.
pub data Answered {A : Type 0} (s : List ℕ) (Fits : Type 0) (Says : Answer A → Type 0) : Answer A → Type 0 where
  -- Each other request checks the image first, and gives its refusal.
  refusal : {num p : ℕ} → Refused s num p → Answered s Fits Says (refused num p)
  -- 31: the offset does not fit; 31 goes before 30
  at31 : Accepted s → (Fits → ⊥) → Answered s Fits Says (refused 31 0)
  fits : {a : Answer A} → Accepted s → Fits → Says a → Answered s Fits Says a

-- ---- find
-- find takes 0 for the root list, or a directory's offset: a reached header of type 1
abbrev pub Directory : List ℕ → ℕ → Type 0
Directory s dir = (dir ≡ 0) ⊎ (IsReached s dir × (type_at s dir ≡ 1))

-- where that list begins; 0 is an empty list
pub data FirstGiven (s : List ℕ) (dir : ℕ) : ℕ → Type 0 where
  empty : dir ≡ 0 → RootFirst s (full s) → FirstGiven s dir 0
  root : {p : ℕ} → dir ≡ 0 → RootFirst s p → p ≢ full s → FirstGiven s dir p
  -- what its first-header word leads to (for "." and ".." too)
  word : dir ≢ 0 → FirstGiven s dir (info_at s dir)

-- q is an entry of the list from p on
pub data InList (s : List ℕ) (p : ℕ) : ℕ → Type 0 where
  here : InList s p p
  on : {q : ℕ} → InList s p q → next_at s q ≢ 0 → InList s p (next_at s q)

-- the first entry of the name want in a list, whose offsets rise (CheckLaws.rises)
pub record FirstMatch (s want : List ℕ) (first p : ℕ) : Type 0 where
  pub entry : InList s first p
  pub named : Named s p want
  pub lower : (q : ℕ) → InList s first q → q < p → Named s q want → ⊥

-- the first match's header offset, or 30 where the list has none
abbrev pub Finds : List ℕ → List ℕ → ℕ → Answer ℕ → Type 0
Finds s want first (granted p) = (first ≢ 0) × FirstMatch s want first p
Finds s want first (refused num q) = (num ≡ 30) × (q ≡ 0) × ((p : ℕ) → first ≢ 0 → InList s first p → Named s p want → ⊥)

pub record FindSays (s : List ℕ) (dir : ℕ) (want : List ℕ) (a : Answer ℕ) : Type 0 where
  pub first : ℕ
  pub begins : FirstGiven s dir first
  pub finds : Finds s want first a

-- ---- entry
-- type, executable, spec.info, size, next and name length
pub record EntryIs (s : List ℕ) (p : ℕ) (e : Entry) : Type 0 where
  pub type_of_file : e.type_of_file ≡ type_at s p
  pub executable : e.executable ≡ executable_at s p
  pub info : e.info ≡ info_at s p
  pub size : e.size ≡ size_at s p
  pub next : e.next ≡ next_at s p
  pub name_length : ZeroAfter s (p + 16) e.name_length

abbrev pub EntrySays : List ℕ → ℕ → Answer Entry → Type 0
EntrySays s p (granted e) = EntryIs s p e
EntrySays s p (refused num q) = ⊥

-- ---- content
-- content is that of a reached header of type 2 or 3
abbrev pub HasContent : List ℕ → ℕ → Type 0
HasContent s p = IsReached s p × ((type_at s p ≡ 2) ⊎ (type_at s p ≡ 3))

-- a granted content of n bytes: the part of the image from the padded name's end on, inside F, which is inside the image
pub record ContentIs (s : List ℕ) (p n : ℕ) : Type 0 where
  pub name_length : ℕ
  pub named : ZeroAfter s (p + 16) name_length
  pub start : content_start s p ≡ p + 16 + pad16 (name_length + 1)
  pub bytes : content s p ≡ take n (drop (content_start s p) s)
  pub long : length (content s p) ≡ n
  pub inside : content_start s p + n ≤ full s
  pub whole : full s ≤ length s

-- an empty part where the length is refused
abbrev pub ContentSays : List ℕ → ℕ → Answer ℕ → Type 0
ContentSays s p (granted n) = ContentIs s p n
ContentSays s p (refused num q) = (content s p ≡ []) × (content_start s p ≡ 0)

-- ---- bytes past F
-- t holds the same first F bytes as s. Where F is under 32, so that s is refused, the first 32 are the same, for F itself stands in them. A slice shorter than that has only itself.
abbrev pub SameFull : List ℕ → List ℕ → Type 0
SameFull s t = take (max 32 (full s)) t ≡ take (max 32 (full s)) s

-- every request on t answers as on s
pub record SameAnswers (s t : List ℕ) : Type 0 where
  pub checks : check t ≡ check s
  pub finds : (dir : ℕ) (want : List ℕ) → find t dir want ≡ find s dir want
  pub entries : (p : ℕ) → entry t p ≡ entry s p
  pub lengths : (p : ℕ) → content_length t p ≡ content_length s p
  pub contents : (p : ℕ) → content t p ≡ content s p
  pub starts : (p : ℕ) → content_start t p ≡ content_start s p

pub record RequestLaws (s : List ℕ) : Type 0 where
  -- Find, entry and content's length give an answer exactly when the rules do.
  pub find-given : (dir : ℕ) (want : List ℕ) (a : Answer ℕ) → (find s dir want ≡ a) ↔ Answered s (Directory s dir) (FindSays s dir want) a
  pub entry-given : (p : ℕ) (a : Answer Entry) → (entry s p ≡ a) ↔ Answered s (IsReached s p) (EntrySays s p) a
  pub length-given : (p : ℕ) (a : Answer ℕ) → (content_length s p ≡ a) ↔ Answered s (HasContent s p) (λ b. b ≡ granted (size_at s p)) a
  pub content-given : (p : ℕ) → ContentSays s p (content_length s p)
  -- No answer depends on the bytes past F, whether the image is accepted or refused.
  pub past-full : (t : List ℕ) → SameFull s t → SameAnswers s t

-- ---- the statements: of every slice. romfs_proofs/specs/Proved.antt proves each.
pub record Statements : Type 0 where
  pub layout-laws : (s : List ℕ) → LayoutLaws s
  pub check-laws : (s : List ℕ) → CheckLaws s
  pub request-laws : (s : List ℕ) → RequestLaws s
