-- What reading answers: the entries of a record, or the first fault of the bytes. Faults come in the order of their places.
use Rattle.std.specs.Prelude.{◌≡◌, ℕ, ◌+◌, ◌*◌, ◌<◌, ◌≤◌, List, [], ◌∷◌, ◌++◌, length, drop, Ok, Err, Result, slice_index}
use Rattle.std.specs.Borrow.{Bor}
use Rattle.std.specs.List.{flat_map}
use Rattle.record.specs.declared.entries.Entry.{Entry}
use Rattle.record.specs.declared.entries.Entries.{Entries}
use Rattle.record.specs.declared.fault.Fault.{Fault}
use Rattle.record.specs.declared.fault.Fault.TheVariants.{Length, Version, Count, Entry as AtEntry}
use Rattle.record.specs.Record.{edition, front_bytes, entry_bytes, layout, encode, Good, listed}

-- the number by which a fault is known outside
abbrev pub number_of : Fault → ℕ
number_of Length = 15
number_of Version = 16
number_of Count = 17
number_of (AtEntry place) = 17

-- where the faulty byte stands, from 0
abbrev pub place_of : Fault → ℕ
place_of Length = 0
place_of Version = 2
place_of Count = 3
place_of (AtEntry place) = place

-- what the first two bytes say: how many bytes come behind them
abbrev pub said : List ℕ → ℕ
said bytes = 256 * slice_index bytes 0 + slice_index bytes 1

-- the front is whole, and as many bytes come behind the first two as these say
abbrev pub RightLength : List ℕ → Type 0
RightLength bytes = (front_bytes ≤ length bytes) × (length bytes ≡ 2 + said bytes)

-- the version is the one in use
abbrev pub RightVersion : List ℕ → Type 0
RightVersion bytes = slice_index bytes 2 ≡ edition

-- the length is that of the version, the count and so many entries
abbrev pub RightCount : List ℕ → Type 0
RightCount bytes = said bytes ≡ 2 + entry_bytes * slice_index bytes 3

-- The first faulty entry begins at this place: the entries before it are good, and with it they are not.
pub record FirstFaulty (next : ℕ) (bytes : List ℕ) (place : ℕ) : Type 0 where
  pub before : List Entry
  pub entry : Entry
  pub behind : List ℕ
  pub stands : drop front_bytes bytes ≡ flat_map layout before ++ (layout entry ++ behind)
  pub at : place ≡ front_bytes + length (flat_map layout before)
  pub good : Good next before
  pub faulty : Good next (before ++ (entry ∷ [])) → ⊥

-- the bytes have this fault, and none before it
abbrev pub FaultIn : ℕ → List ℕ → Fault → Type 0
FaultIn next bytes Length = RightLength bytes → ⊥
FaultIn next bytes Version = RightLength bytes × (RightVersion bytes → ⊥)
FaultIn next bytes Count = RightLength bytes × RightVersion bytes × (RightCount bytes → ⊥)
FaultIn next bytes (AtEntry place) = RightLength bytes × RightVersion bytes × RightCount bytes × FirstFaulty next bytes place

-- Accepted, the entries are good and the bytes are their record; else the bytes have the fault.
abbrev pub Reads : ℕ → List ℕ → Result Entries Fault → Type 0
Reads next bytes (Ok x) = Good next (listed x) × (bytes ≡ encode edition (listed x))
Reads next bytes (Err f) = FaultIn next bytes f

-- accepted, and read as these entries
abbrev pub Same : Result Entries Fault → List Entry → Type 0
Same (Ok x) es = listed x ≡ es
Same (Err f) es = ⊥

-- ---- the reader's first step

-- the bytes in front are right, `rest` is what comes behind them, and the length's low byte is a byte
pub record Opened (bytes rest : List ℕ) : Type 0 where
  pub right_length : RightLength bytes
  pub right_version : RightVersion bytes
  pub right_count : RightCount bytes
  pub rest_is : rest ≡ drop front_bytes bytes
  pub low : slice_index bytes 1 < 256

-- Accepted, the bytes in front are right; else they have the fault, whatever numbers have been given out.
abbrev pub Opens : List ℕ → Result (Bor (List ℕ)) Fault → Type 0
Opens bytes (Ok rest) = Opened bytes rest.now
Opens bytes (Err f) = ((next : ℕ) → FaultIn next bytes f)
