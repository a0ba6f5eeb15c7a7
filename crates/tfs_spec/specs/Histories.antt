-- Histories: any list of requests, format and refused ones included. What stands and is read under a name, what becomes of inode numbers, and that the bytes of slots are kept.
use Rattle.std.specs.Prelude.{◌≡◌, ◌≢◌, cond, ◌&&◌, ℕ, List, [], ◌∷◌, T}
use Rattle.std.proofs.Math.Option.{Option, none, some}
use Rattle.lists.specs.Lists.{zeros}
use Rattle.tfs_spec.specs.Layout.{same_name, view, inode, size, contents}
use Rattle.tfs_spec.specs.Consistent.{File, Consistent}
use Rattle.tfs_spec.specs.Requests.{value, file, granted, refuse, format, create, remove, read, write, list_answer, Change, creates, removes, writes, perform, mend, changes, fetches, checks, reads, lists, counts, Operation, formats, mends, requests, operate, after_all}
use Rattle.tfs_spec.specs.Answers.{NameRule, Stands, Vacant}
use Rattle.tfs_spec.specs.Effects.{over, effect_of, name_on, read_by, SameBytes}

-- no request of a list is such, each on the image that the last one left
abbrev pub Never : ℕ → (List ℕ → Operation → Type 0) → List ℕ → List Operation → Type 0
Never B such img [] = Unit {0}
Never B such img (x ∷ xs) = (such img x → ⊥) × Never B such (operate B img x).image xs

-- a granted create of nm
pub data CreatesName (B : ℕ) (nm img : List ℕ) : Operation → Type 0 where
  created : (k : List ℕ) (z : ℕ) → T (same_name nm k) → T (granted (create B img k z).answer) → CreatesName B nm img (requests (changes (creates k z)))

-- a granted remove of nm, or a granted format
pub data EndsName (B : ℕ) (nm img : List ℕ) : Operation → Type 0 where
  removed : (k : List ℕ) → T (same_name nm k) → T (granted (remove B img k).answer) → EndsName B nm img (requests (changes (removes k)))
  formatted : (label : List ℕ) → T (granted (format B img label).answer) → EndsName B nm img (formats label)

-- a granted create, remove or write of nm, or a granted format
pub data ChangesName (B : ℕ) (nm img : List ℕ) : Operation → Type 0 where
  changed : (c : Change) → T (same_name nm (name_on c)) → T (granted (perform B img c).answer) → ChangesName B nm img (requests (changes c))
  emptied : (label : List ℕ) → T (granted (format B img label).answer) → ChangesName B nm img (formats label)

-- what a request makes of what stands under nm
abbrev pub effect_on : ℕ → List ℕ → List ℕ → Operation → Option (List ℕ) → Option (List ℕ)
effect_on B nm img (formats label) old = cond (granted (format B img label).answer) none old
effect_on B nm img mends old = old
effect_on B nm img (requests (changes c)) old = cond (same_name nm (name_on c) && granted (perform B img c).answer) (effect_of c old) old
effect_on B nm img (requests (fetches c k buf)) old = old
effect_on B nm img (requests checks) old = old
effect_on B nm img (requests (reads k o buf)) old = old
effect_on B nm img (requests (lists s)) old = old
effect_on B nm img (requests counts) old = old

-- and what a list of them makes of it
unfoldable pub effect_on_all : ℕ → List ℕ → List ℕ → List Operation → Option (List ℕ) → Option (List ℕ)
effect_on_all B nm img [] old = old
effect_on_all B nm img (x ∷ xs) old = effect_on_all B nm (operate B img x).image xs (effect_on B nm img x old)

-- a granted write by the name nm laid over a content; other requests leave it
abbrev pub put_by : ℕ → List ℕ → List ℕ → Operation → List ℕ → List ℕ
put_by B nm img (formats label) old = old
put_by B nm img mends old = old
put_by B nm img (requests (changes (creates k z))) old = old
put_by B nm img (requests (changes (removes k))) old = old
put_by B nm img (requests (changes (writes k o bs))) old = cond (same_name nm k && granted (write B img k o bs).answer) (over o bs old) old
put_by B nm img (requests (fetches c k buf)) old = old
put_by B nm img (requests checks) old = old
put_by B nm img (requests (reads k o buf)) old = old
put_by B nm img (requests (lists s)) old = old
put_by B nm img (requests counts) old = old

-- and those of a list, one after another
unfoldable pub put_by_all : ℕ → List ℕ → List ℕ → List Operation → List ℕ → List ℕ
put_by_all B nm img [] old = old
put_by_all B nm img (x ∷ xs) old = put_by_all B nm (operate B img x).image xs (put_by B nm img x old)

-- of every image, consistent or not
pub record HistoryLaws (B : ℕ) (img : List ℕ) : Type 0 where
  pub consistent : Consistent B img → (xs : List Operation) → Consistent B (after_all B img xs)
  -- what stands under a name is made by granted requests by that name and by granted formats; no other request changes it
  pub stands : (xs : List Operation) (nm : List ℕ) → contents B (after_all B img xs) nm ≡ effect_on_all B nm img xs (contents B img nm)
  -- so what stands under a name is left by all requests on other names, by refused ones and by all that have no name but format
  pub others : (xs : List Operation) (nm : List ℕ) → Never B (ChangesName B nm) img xs → contents B (after_all B img xs) nm ≡ contents B img nm
  -- so reads after them give what these made of it, and no byte of a file that does not stand under it then
  pub reads : (xs : List Operation) → Consistent B (after_all B img xs) → (nm : List ℕ) → NameRule nm → (o : ℕ) (buf : List ℕ) → read B (after_all B img xs) nm o buf ≡ read_by B (effect_on_all B nm img xs (contents B img nm)) (after_all B img xs) o buf
  -- after a granted remove, or a granted format, every read and write of the name is refused 13, until a create of it is granted
  pub ended : (nm : List ℕ) → NameRule nm → (x : Operation) → EndsName B nm img x → (xs : List Operation) → Never B (CreatesName B nm) (operate B img x).image xs → (o : ℕ) (buf : List ℕ) → (read B (after_all B (operate B img x).image xs) nm o buf ≡ refuse (after_all B (operate B img x).image xs) buf 13 0) × (write B (after_all B (operate B img x).image xs) nm o buf ≡ refuse (after_all B (operate B img x).image xs) [] 13 0)
  -- and then, until a remove of it or a format is granted, reads give zeros and what writes by that name put there since
  pub created : (nm : List ℕ) (z : ℕ) → T (granted (create B img nm z).answer) → (xs : List Operation) → Never B (EndsName B nm) (create B img nm z).image xs → (o : ℕ) (buf : List ℕ) → read B (after_all B (create B img nm z).image xs) nm o buf ≡ read_by B (some (put_by_all B nm (create B img nm z).image xs (zeros z))) (after_all B (create B img nm z).image xs) o buf

-- ---- inode numbers: what create answers and list shows
-- list shows the number h in no slot
abbrev pub ShowsNone : ℕ → List ℕ → ℕ → Type 0
ShowsNone B img h = (s z : ℕ) (nm : List ℕ) → list_answer B img s ≢ file nm h z

-- a create that answers h, or a mend that makes a volume consistent in which a file has h: list shows its files from then on
pub data GivesNumber (B h : ℕ) (img : List ℕ) : Operation → Type 0 where
  given : (nm : List ℕ) (z : ℕ) → (create B img nm z).answer ≡ value h → GivesNumber B h img (requests (changes (creates nm z)))
  mended : (s : ℕ) → (Consistent B img → ⊥) → T (granted (mend B img).answer) → File B (view B img) s → inode (view B img) s ≡ h → GivesNumber B h img mends

-- of every image, consistent or not: on a volume that is not, list shows nothing
pub record InodeLaws (B : ℕ) (img : List ℕ) : Type 0 where
  -- create's number is the one that list shows for that name, and no file had it before
  pub created : (nm : List ℕ) (z h : ℕ) → (create B img nm z).answer ≡ value h → (s : ℕ) × (list_answer B (create B img nm z).image s ≡ file nm h z)
  pub fresh : (nm : List ℕ) (z h : ℕ) → (create B img nm z).answer ≡ value h → ShowsNone B img h
  -- a name that list shows is one that requests take, and the file of that name is in that slot
  pub listed : (s z h : ℕ) (nm : List ℕ) → list_answer B img s ≡ file nm h z → NameRule nm × Stands B (view B img) nm s × (size (view B img) s ≡ z)
  -- two files of a volume never have the same number, nor the same name
  pub apart : (s t y z h : ℕ) (nm k : List ℕ) → list_answer B img s ≡ file nm h y → list_answer B img t ≡ file k h z → s ≡ t
  pub named : (s t y z h i : ℕ) (nm k : List ℕ) → T (same_name nm k) → list_answer B img s ≡ file nm h y → list_answer B img t ≡ file k i z → s ≡ t
  -- a file stays in its slot with its name, number and size until it is removed or the volume is formatted; then the number is of no file, until a create answers it, or a mend makes a volume consistent that has a file with it
  pub kept : (xs : List Operation) (s z h : ℕ) (nm : List ℕ) → list_answer B img s ≡ file nm h z → Never B (EndsName B nm) img xs → list_answer B (after_all B img xs) s ≡ file nm h z
  pub ended : (s z h : ℕ) (nm : List ℕ) → list_answer B img s ≡ file nm h z → (x : Operation) → EndsName B nm img x → ShowsNone B (operate B img x).image h
  pub none : (xs : List Operation) (h : ℕ) → ShowsNone B img h → Never B (GivesNumber B h) img xs → ShowsNone B (after_all B img xs) h

-- ---- the bytes of slots, and with them leftovers, are kept
-- a granted create into slot s, or a granted format
pub data TakesSlot (B s : ℕ) (img : List ℕ) : Operation → Type 0 where
  filled : (k : List ℕ) (z : ℕ) → T (granted (create B img k z).answer) → Stands B (view B (create B img k z).image) k s → TakesSlot B s img (requests (changes (creates k z)))
  wiped : (label : List ℕ) → T (granted (format B img label).answer) → TakesSlot B s img (formats label)

-- of every image, consistent or not
pub record SlotLaws (B : ℕ) (img : List ℕ) : Type 0 where
  -- all 20 bytes of a file's slot stay until the file is removed or the volume is formatted
  pub file-kept : (nm : List ℕ) (s : ℕ) → Stands B (view B img) nm s → (xs : List Operation) → Never B (EndsName B nm) img xs → SameBytes B (after_all B img xs) img s
  -- those of a free slot until a file is created in it or the volume is formatted
  pub free-kept : (s : ℕ) → Vacant B (view B img) s → (xs : List Operation) → Never B (TakesSlot B s) img xs → SameBytes B (after_all B img xs) img s
