-- The laws of requests (demand 3): one claim each, over all consistent volumes and whole lists.
use Rattle.std.specs.Prelude.{◌≡◌, ◌≢◌, ◌↔◌, ◌⊎◌, Bool, cond, ◌&&◌, ℕ, ◌+◌, ◌-◌, ◌≤◌, ◌<◌, ◌*◌, List, [], ◌∷◌, map, length, get_or, T, leb, ltb}
use Rattle.std.proofs.Math.Option
use Rattle.lists.specs.Lists.{table, joined, zeros}
use Rattle.tfs_spec.specs.Layout.{slots, block, slot, same_name, view, name, size, place, contents, BlockSize}
use Rattle.tfs_spec.specs.Consistent.{File, Consistent, Bytes, LayoutLaws, NameLaws, NumberLaws, CountLaws}
use Rattle.tfs_spec.specs.Requests.{Answer, done, transferred, granted, count_of, Outcome, create, remove, write, Change, perform}
use Rattle.tfs_spec.specs.Answers.{CheckLaws, RefusalLaws, LabelRule, Stands, GrantLaws, BlocksMetLaws}
use Rattle.tfs_spec.specs.Effects.{name_on, ContentLaws, ChangeLaws, TouchLaws, FormatLaws, TransferLaws, SameSlot, KeptLaws, ByteLaws, RoomLaws}
use Rattle.tfs_spec.specs.Histories.{HistoryLaws, InodeLaws, SlotLaws}
use Rattle.tfs_spec.specs.Cuts.{StoreLaws, MendLaws, CutLaws}
use Rattle.tfs_spec.specs.Traces.{TraceLaws}
use Rattle.tfs_spec.specs.Replays.{ReplayLaws, LineLaws}

pub record Write : Type 0 where
  pub name : List ℕ
  pub offset : ℕ
  pub bytes : List ℕ

unfoldable pub request : ℕ → List ℕ → Write → Outcome
request B img w = write B img w.name w.offset w.bytes

-- "each request gets the image the last one left"
unfoldable pub after : ℕ → List ℕ → List Write → List ℕ
after B img [] = img
after B img (w ∷ ws) = after B (request B img w).image ws

unfoldable pub answers : ℕ → List ℕ → List Write → List Answer
answers B img [] = []
answers B img (w ∷ ws) = (request B img w).answer ∷ answers B (request B img w).image ws

-- "A granted write at offset o with count c covers positions o to o + c − 1 of the file" of its name
unfoldable pub covers_at : ℕ → List ℕ → Write → List ℕ → ℕ → Bool
covers_at B img w nm p =
    same_name w.name nm
    && (leb w.offset p && ltb p (w.offset + count_of (request B img w).answer))

-- "what the last granted write covering it put there, or its byte before the list"
unfoldable pub last_at : ℕ → List ℕ → List Write → List ℕ → ℕ → ℕ → ℕ
last_at B img [] nm p old = old
last_at B img (w ∷ ws) nm p old = last_at B img ws nm p (cond (covers_at B img w nm p) (get_or w.bytes (p - w.offset) 0) old)

-- 1. any list of writes, refused ones included
pub record WritesLaw (B : ℕ) (img : List ℕ) (ws : List Write) : Type 0 where
  -- "Every write of a list gets the answer that the rules give it on the volume before the list"
  pub answered : answers B img ws ≡ map (λ w. (request B img w).answer) ws
  -- names, sizes and places are as before
  pub kept : view B (after B img ws) ≡ view B img
  -- "every byte of every file is what the last granted write covering it put there, or its byte before the list if none did"
  pub bytes : (s p : ℕ) → p < size (view B img) s → get_or (after B img ws) (place B (view B img) s p) 0 ≡ last_at B img ws (name (view B img) s) p (get_or img (place B (view B img) s p) 0)
  -- "No other byte of the image has changed"
  pub others : (q : ℕ) → ((s p : ℕ) → File B (view B img) s → p < size (view B img) s → q ≢ place B (view B img) s p) → get_or (after B img ws) q 0 ≡ get_or img q 0
  pub long : length (after B img ws) ≡ length img
  -- the same by name: the bytes of each file that stands
  pub named : (nm : List ℕ) → contents B (after B img ws) nm ≡ Option.map (λ old. table (λ p. last_at B img ws nm p (get_or old p 0)) 0 (length old)) (contents B img nm)

-- pieces written to one name, each at the offset where the count of the one before ended
unfoldable pub pieces_image : ℕ → List ℕ → List ℕ → ℕ → List (List ℕ) → List ℕ
pieces_image B img nm o [] = img
pieces_image B img nm o (b ∷ bs) = pieces_image B (write B img nm o b).image nm (o + count_of (write B img nm o b).answer) bs

-- "a refused piece counts 0"
unfoldable pub pieces_count : ℕ → List ℕ → List ℕ → ℕ → List (List ℕ) → ℕ
pieces_count B img nm o [] = 0
pieces_count B img nm o (b ∷ bs) = count_of (write B img nm o b).answer + pieces_count B (write B img nm o b).image nm (o + count_of (write B img nm o b).answer) bs

-- 2. "the image and the sum of the counts are those of one joined write"
pub record PiecesLaw (B : ℕ) (img nm : List ℕ) (o : ℕ) (bs : List (List ℕ)) : Type 0 where
  pub image : pieces_image B img nm o bs ≡ (write B img nm o (joined bs)).image
  pub count : pieces_count B img nm o bs ≡ count_of (write B img nm o (joined bs)).answer

-- the image after a create and a remove of that name
abbrev pub undone : ℕ → List ℕ → List ℕ → ℕ → List ℕ
undone B img nm z = (remove B (create B img nm z).image nm).image

-- 3. "A granted create, then a remove of that name, gives the directory and map back": the map byte for byte, of the directory "each slot's inode number and name"
pub record BackLaw (B : ℕ) (img nm : List ℕ) (z s : ℕ) : Type 0 where
  -- the remove is granted
  pub answer : (remove B (create B img nm z).image nm).answer ≡ done
  -- "The map is block 1, the directory block 2"
  pub map : block B (undone B img nm z) 1 ≡ block B img 1
  pub slots_same : (t : ℕ) → t < slots B → SameSlot B (undone B img nm z) img t
  -- of its bytes: slot s, where the file stood, is 20 zeros, and all of block 2 outside it is as before
  pub stood : Stands B (view B (create B img nm z).image) nm s
  pub zeroed : slot (block B (undone B img nm z) 2) s ≡ zeros 20
  pub others : (i : ℕ) → (i < s * 20) ⊎ (s * 20 + 20 ≤ i) → get_or (block B (undone B img nm z) 2) i 0 ≡ get_or (block B img 2) i 0

-- two requests are granted in both orders
pub record BothOrders (B : ℕ) (img : List ℕ) (a b : Change) : Type 0 where
  pub first-a : T (granted (perform B img a).answer)
  pub then-b : T (granted (perform B (perform B img a).image b).answer)
  pub first-b : T (granted (perform B img b).answer)
  pub then-a : T (granted (perform B (perform B img b).image a).answer)

pub record RequestLaws (B : ℕ) (img : List ℕ) : Type 0 where
  pub writes : (ws : List Write) → WritesLaw B img ws
  -- what it is to cover in it: granted with the count c, to that name, at an offset from which c bytes reach p
  pub covers : (w : Write) (nm : List ℕ) (p : ℕ) → T (covers_at B img w nm p) ↔ (T (same_name w.name nm) × (c : ℕ) × (m : ℕ) × ((request B img w).answer ≡ transferred c m) × (w.offset ≤ p) × (p < w.offset + c))
  pub pieces : (nm : List ℕ) (o : ℕ) (bs : List (List ℕ)) → PiecesLaw B img nm o bs
  pub back : (nm : List ℕ) (z : ℕ) → T (granted (create B img nm z).answer) → (s : ℕ) × BackLaw B img nm z s
  -- 4. "Two requests out of create, remove and write, on different names and granted in both orders, end with the same names, sizes and contents in either order"
  pub orders : (a b : Change) → (T (same_name (name_on a) (name_on b)) → ⊥) → BothOrders B img a b → (nm : List ℕ) → contents B (perform B (perform B img a).image b).image nm ≡ contents B (perform B (perform B img b).image a).image nm

-- ---- all statements, each with its premises; tfs_proofs/specs/Proved.antt proves each. The starred numbers are in starred/specs/Starred.antt
pub record Statements : Type 0 where
  -- of numbers, names, maps, the blocks that a transfer meets, traces, and the numbers in the replay program's line
  pub number-laws : NumberLaws
  pub name-laws : NameLaws
  pub count-laws : CountLaws
  pub blocks-met-laws : BlocksMetLaws
  pub trace-laws : TraceLaws
  pub line-laws : LineLaws
  -- of every image
  pub check-laws : (B : ℕ) → BlockSize B → (img : List ℕ) → CheckLaws B img
  pub refusal-laws : (B : ℕ) → BlockSize B → (img : List ℕ) → RefusalLaws B img
  pub grant-laws : (B : ℕ) → BlockSize B → (img : List ℕ) → GrantLaws B img
  pub kept_laws : (B : ℕ) → BlockSize B → (img : List ℕ) → KeptLaws B img
  pub history-laws : (B : ℕ) → BlockSize B → (img : List ℕ) → HistoryLaws B img
  pub inode-laws : (B : ℕ) → BlockSize B → (img : List ℕ) → InodeLaws B img
  pub slot_laws : (B : ℕ) → BlockSize B → (img : List ℕ) → SlotLaws B img
  pub mend-laws : (B : ℕ) → BlockSize B → (img : List ℕ) → MendLaws B img
  pub replay-laws : (B : ℕ) → BlockSize B → (img : List ℕ) → ReplayLaws B img
  -- of images of three blocks or more, of images of bytes
  pub layout-laws : (B : ℕ) → BlockSize B → (img : List ℕ) → 3 * B ≤ length img → LayoutLaws B img
  pub format-laws : (B : ℕ) → BlockSize B → (img label : List ℕ) → 3 * B ≤ length img → LabelRule label → FormatLaws B img label
  pub byte_laws : (B : ℕ) → BlockSize B → B ≤ 65536 → (img : List ℕ) → Bytes img → ByteLaws B img
  -- of consistent volumes
  pub content-laws : (B : ℕ) → BlockSize B → (img : List ℕ) → Consistent B img → ContentLaws B img
  pub change-laws : (B : ℕ) → BlockSize B → (img : List ℕ) → Consistent B img → ChangeLaws B img
  pub touch-laws : (B : ℕ) → BlockSize B → (img : List ℕ) → Consistent B img → TouchLaws B img
  pub room-laws : (B : ℕ) → BlockSize B → (img : List ℕ) → Consistent B img → RoomLaws B img
  pub transfer-laws : (B : ℕ) → BlockSize B → (img : List ℕ) → Consistent B img → TransferLaws B img
  pub store-laws : (B : ℕ) → BlockSize B → (img : List ℕ) → Consistent B img → (c : Change) → T (granted (perform B img c).answer) → StoreLaws B img c
  pub cut-laws : (B : ℕ) → BlockSize B → (img : List ℕ) → Consistent B img → CutLaws B img
  pub request-laws : (B : ℕ) → BlockSize B → (img : List ℕ) → Consistent B img → RequestLaws B img
