-- Lists of requests of the pump and of TFS, each on the image that the last one left.
use Rattle.std.specs.Prelude.{ℕ, List, [], ◌∷◌, map, T}
use Rattle.tfs_spec.specs.Layout.{same_name}
use Rattle.tfs_spec.specs.Requests.{granted, write, Change, creates, removes, writes, perform, cut, mend, changes, Operation, requests, operate}
use Rattle.tfs_spec.specs.Effects.{name_on}
use Rattle.tfs_spec.specs.Histories.{Never, ChangesName}
use Rattle.tfs_spec.specs.Replays.{request_of, replay, ran}
use Rattle.timing_spec.specs.Timing.{TIMING, Timing, Fits, store, store_block, store_cut, open_lid, open_lid_block, open_lid_cut}

pub data Event : Type 0 where
  stores : Timing → Event
  opens : Event
  -- board and maker
  boots : ℕ → ℕ → Event
  -- of a store and of an opening the k-th block, into a buffer
  fetches-store : Timing → ℕ → List ℕ → Event
  fetches-opening : ℕ → List ℕ → Event
  -- any request of TFS, by whatever name
  operates : Operation → Event
  -- a trace
  replays : List ℕ → Event
  -- power taken behind j stores of a create, remove or write, of a store or of an opening, and then a mend
  cuts : Change → ℕ → Event
  cuts-store : (t : Timing) → Fits t → ℕ → Event
  cuts-opening : ℕ → Event

-- the image that it leaves
abbrev pub leaves : ℕ → List ℕ → Event → List ℕ
leaves B img (stores t) = (store B img t).image
leaves B img opens = (open_lid B img).image
leaves B img (boots board maker) = img
leaves B img (fetches-store t k buf) = (store_block B img t k buf).image
leaves B img (fetches-opening k buf) = (open_lid_block B img k buf).image
leaves B img (operates x) = (operate B img x).image
leaves B img (replays t) = (replay B img t).image
leaves B img (cuts c j) = (mend B (cut B img c j)).image
leaves B img (cuts-store t fits j) = (mend B (store_cut B img t j)).image
leaves B img (cuts-opening j) = (mend B (open_lid_cut B img j)).image

-- "each request gets the image the last one left"
unfoldable pub after_events : ℕ → List ℕ → List Event → List ℕ
after_events B img [] = img
after_events B img (x ∷ xs) = after_events B (leaves B img x) xs

-- each request of a list is such, on the image that it gets
abbrev pub Each : ℕ → (List ℕ → Event → Type 0) → List ℕ → List Event → Type 0
Each B such img [] = Unit {0}
Each B such img (x ∷ xs) = such img x × Each B such (leaves B img x) xs

-- "a replay counts as the requests that it runs"
abbrev pub ran_by : ℕ → List ℕ → List ℕ → List Operation
ran_by B img t = map (λ c. requests (request_of c)) (ran B img t)

-- a granted write of nm
pub data WritesName (B : ℕ) (nm img : List ℕ) : Operation → Type 0 where
  written : (k : List ℕ) (o : ℕ) (bs : List ℕ) → T (same_name nm k) → T (granted (write B img k o bs).answer) → WritesName B nm img (requests (changes (writes k o bs)))

-- a request that gives the file no values: no granted store, and no granted write by its name, cut or not (a create gives zeros, a remove and a format no file)
abbrev pub NotFilled : ℕ → List ℕ → Event → Type 0
NotFilled B img (stores t) = T (granted (store B img t).answer) → ⊥
NotFilled B img opens = Unit {0}
NotFilled B img (boots board maker) = Unit {0}
NotFilled B img (fetches-store t k buf) = Unit {0}
NotFilled B img (fetches-opening k buf) = Unit {0}
NotFilled B img (operates x) = WritesName B TIMING img x → ⊥
NotFilled B img (replays t) = Never B (WritesName B TIMING) img (ran_by B img t)
NotFilled B img (cuts (creates nm z) j) = Unit {0}
NotFilled B img (cuts (removes nm) j) = Unit {0}
NotFilled B img (cuts (writes nm o bs) j) = T (same_name TIMING nm) → T (granted (write B img nm o bs).answer) → ⊥
NotFilled B img (cuts-store t fits j) = T (granted (store B img t).answer) → ⊥
NotFilled B img (cuts-opening j) = Unit {0}

-- a request that leaves the file as it is: no granted store or opening, no granted create, remove or write by its name, cut or not, and no granted format
abbrev pub NotChanged : ℕ → List ℕ → Event → Type 0
NotChanged B img (stores t) = T (granted (store B img t).answer) → ⊥
NotChanged B img opens = T (granted (open_lid B img).answer) → ⊥
NotChanged B img (boots board maker) = Unit {0}
NotChanged B img (fetches-store t k buf) = Unit {0}
NotChanged B img (fetches-opening k buf) = Unit {0}
NotChanged B img (operates x) = ChangesName B TIMING img x → ⊥
NotChanged B img (replays t) = Never B (ChangesName B TIMING) img (ran_by B img t)
NotChanged B img (cuts c j) = T (same_name TIMING (name_on c)) → T (granted (perform B img c).answer) → ⊥
NotChanged B img (cuts-store t fits j) = T (granted (store B img t).answer) → ⊥
NotChanged B img (cuts-opening j) = T (granted (open_lid B img).answer) → ⊥
