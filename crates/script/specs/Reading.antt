-- The lines of a script: the text of each request, and what a reader of such lines promises.
use Rattle.std.specs.Prelude.{◌≡◌, ℕ, ◌+◌, ◌-◌, ◌*◌, ◌<◌, ◌≤◌, List, [], ◌∷◌, ◌++◌, map, length, Some, None, codes, decimal, Option, ◌≢◌, slice_index}
use Rattle.sets.specs.Sets.{IsLines}
use Rattle.script.specs.Menus.{lines_below, parted}
use Rattle.script.specs.declared.request.Request.{Request}
use Rattle.script.specs.declared.request.Request.TheVariants.{Step, Write, Strike, Rule, Unrule, List as Listing}

-- no byte of the text is the mark
abbrev pub Lacks : ℕ → List ℕ → Type 0
Lacks mark bytes = (k : ℕ) → k < length bytes → slice_index bytes k ≢ mark

-- the text parted at its first mark
pub record Parts (bytes : List ℕ) (mark : ℕ) (before after : List ℕ) : Type 0 where
  pub whole : bytes ≡ before ++ (mark ∷ after)
  pub clear : Lacks mark before

-- the value of digits, after a number read so far
abbrev pub value_after : ℕ → List ℕ → ℕ
value_after n [] = n
value_after n (c ∷ cs) = value_after (10 * n + (c - 48)) cs

-- a set's lines, rising, joined by commas
abbrev pub lines_text : List ℕ → List ℕ
lines_text [] = codes "."
lines_text (n ∷ ns) = parted (codes ",") (map decimal (n ∷ ns))

unfoldable pub set_text : ℕ → List ℕ
set_text set = lines_text (lines_below set 64)

-- The line that asks for a request.
abbrev pub request_text : Request → List ℕ
request_text (Step needs gives) = codes "> " ++ (set_text needs ++ (codes " " ++ decimal gives))
request_text (Write line words) = codes "+ " ++ (decimal line ++ (codes " " ++ words.now))
request_text (Strike line) = codes "- " ++ decimal line
request_text (Rule place needs unless gives) =
    codes ": " ++ (decimal place ++ (codes " " ++ (set_text needs ++ (codes " " ++ (set_text unless ++ (codes " " ++ decimal gives))))))
request_text (Unrule place) = codes "/ " ++ decimal place
request_text (Listing from) = codes "? " ++ decimal from

-- a number of at most five digits
abbrev pub Short : ℕ → Type 0
Short n = n < 100000

-- A request that a line can ask for: its numbers are short, and its words are some bytes with no space.
abbrev pub Fit : Request → Type 0
Fit (Step needs gives) = IsLines needs × Short gives
Fit (Write line words) = Short line × (0 < length words.now) × Lacks 32 words.now
Fit (Strike line) = Short line
Fit (Rule place needs unless gives) = Short place × IsLines needs × IsLines unless × Short gives
Fit (Unrule place) = Short place
Fit (Listing from) = Short from

-- What a reader answers of a line: the fit request whose text the line is, or none if there is no such request.
abbrev pub ReadsRequest : List ℕ → Option Request → Type 0
ReadsRequest line (Some request) = Fit request × (line ≡ request_text request)
ReadsRequest line None = (request : Request) → Fit request → line ≢ request_text request

-- The same of a field that holds a number, and of one that holds a set.
abbrev pub ReadsNumber : List ℕ → Option ℕ → Type 0
ReadsNumber field (Some n) = Short n × (field ≡ decimal n)
ReadsNumber field None = (n : ℕ) → Short n → field ≢ decimal n

-- The same of a line from `least` to 63.
abbrev pub ReadsLine : List ℕ → ℕ → Option ℕ → Type 0
ReadsLine field least (Some n) = (least ≤ n) × (n < 64) × (field ≡ decimal n)
ReadsLine field least None = (n : ℕ) → least ≤ n → n < 64 → field ≢ decimal n

abbrev pub ReadsSet : List ℕ → Option ℕ → Type 0
ReadsSet field (Some set) = IsLines set × (field ≡ set_text set)
ReadsSet field None = (set : ℕ) → IsLines set → field ≡ set_text set → ⊥

-- The same of a set that is not empty.
abbrev pub ReadsLines : List ℕ → Option ℕ → Type 0
ReadsLines field (Some set) = IsLines set × (field ≡ set_text set)
ReadsLines field None = (set : ℕ) → IsLines set → field ≡ set_text set → field ≡ codes "."
