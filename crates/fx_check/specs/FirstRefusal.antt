-- What a certificate must still contain, and its first line that is refused.
use Rattle.std.specs.Prelude.{ℕ, ◌+◌, ◌&&◌, ◌==◌, Bool, nat_lt, nat_le, if◌then◌else◌, List, [], ◌∷◌, ◌++◌, false, length, Result, Ok, Err, Option, Some, None, slice_index}
use Rattle.fx_base.specs.declared.fault.Fault.{Fault}
use Rattle.fx_base.specs.declared.fault.Place.TheVariants as places
use Rattle.fx_base.specs.Fault.{fault_at}
use Rattle.fx_base.specs.Lines.{next_number}
use Rattle.fx_base.specs.Refusals.{long_line}
use Rattle.fx_elements.specs.Axes.{axis_index}
use Rattle.fx_boxes.specs.Boxes.{Bounds, below_part, above_part}
use Rattle.fx_cert.specs.declared.item.Item.{Item}
use Rattle.fx_cert.specs.declared.item.Item.TheVariants as item
use Rattle.fx_cert.specs.declared.item.Version.{Version}
use Rattle.fx_cert.specs.declared.item.Version.TheVariants.{One, Two}
use Rattle.fx_cert.specs.ItemReading.{item_of}
use Rattle.fx_traffic.specs.Targets.{Target}
use Rattle.fx_check.specs.Judging.{Judge}
use Rattle.fx_check.specs.LineFaults.{number_of}
use Rattle.fx_check.specs.declared.line_fault.LineFault.{LineFault}
use Rattle.fx_check.specs.declared.line_fault.LineFault.TheVariants as faults

-- ---- goals

-- what must still follow: the first line and then all of these targets, the line of a target, the tree of a region at
-- this depth in this version, or the last line
pub data Goal : Type 0 where
  header : List Target → Goal
  opening : Target → Goal
  tree : Version → Target → Bounds → ℕ → Goal
  close : Goal

-- the line and the tree of each target, in order, then the last line
abbrev pub ahead : Version → List Target → List Goal
ahead v [] = close ∷ []
ahead v (t ∷ ts) = opening t ∷ tree v t t.region 0 ∷ ahead v ts

abbrev pub whole : List Target → List Goal
whole ts = header ts ∷ []

-- ---- an item

-- the most split and leaf lines
abbrev pub line_limit : ℕ
line_limit = 1000000

-- the depth of every split is below this limit; the first split has depth 0
abbrev pub depth_limit : ℕ
depth_limit = 512

-- the remaining goals, or the fault with this number
abbrev pub unless_wrong : Option ℕ → List Goal → Result (List Goal) LineFault
unless_wrong None gs = Ok gs
unless_wrong (Some n) gs = Err (faults.Leaf n)

abbrev pub leaf_answer : ℕ → Option ℕ → List Goal → Result (List Goal) LineFault
leaf_answer made wrong gs = if nat_le line_limit made then Err faults.LineCount else unless_wrong wrong gs

-- the result of a split of a region at this depth, at a value on the axis with index k
abbrev pub split_answer : ℕ → Bounds → ℕ → ℕ → ℕ → List Goal → Result (List Goal) LineFault
split_answer made b d k at gs =
    if nat_le line_limit made then Err faults.LineCount
    else if nat_le depth_limit d then Err faults.SplitDepth
    else if nat_lt (slice_index b.low k) at && nat_le at (slice_index b.high k) then Ok gs
    else Err faults.SplitPlace

-- the trees of the two parts, the lower part first
abbrev pub parts : Version → Target → Bounds → ℕ → ℕ → ℕ → List Goal → List Goal
parts v t b d k at gs = tree v t (below_part b k at) (d + 1) ∷ tree v t (above_part b k at) (d + 1) ∷ gs

-- a leaf may say that nothing is counted: in version 2, for an exempt class
abbrev pub may_say_never : Version → Target → Bool
may_say_never One t = false
may_say_never Two t = t.exempt

-- what must still follow after an item, or the item's fault; `made` split and leaf lines came before
abbrev pub after : Judge → ℕ → List Goal → Item → Result (List Goal) LineFault
after judge made [] i = Err faults.BehindEnd
after judge made (header ts ∷ gs) (item.Header v) = Ok (ahead v ts ++ gs)
after judge made (header ts ∷ gs) _ = Err faults.Header
after judge made (opening t ∷ gs) (item.Class c m) = if c == t.class && m == t.path then Ok gs else Err faults.Place
after judge made (opening t ∷ gs) _ = Err faults.Place
after judge made (tree v t b d ∷ gs) (item.Leaf crossing point process) =
    if t.exempt then Err faults.Place else leaf_answer made
    (judge t b (Some (record { crossing = crossing; point = point; process = process }))) gs
after judge made (tree v t b d ∷ gs) item.Never =
    if may_say_never v t then leaf_answer made (judge t b None) gs else Err faults.Place
after judge made (tree v t b d ∷ gs) (item.Split a at) =
    split_answer made b d (axis_index a) at (parts v t b d (axis_index a) at gs)
after judge made (tree v t b d ∷ gs) _ = Err faults.Place
after judge made (close ∷ gs) item.End = Ok gs
after judge made (close ∷ gs) _ = Err faults.Place

-- the number of split and leaf lines, including this item
abbrev pub made_by : ℕ → Item → ℕ
made_by made (item.Leaf crossing point process) = made + 1
made_by made (item.Split a at) = made + 1
made_by made item.Never = made + 1
made_by made (item.Header v) = made
made_by made (item.Class c m) = made
made_by made item.End = made

-- ---- a line

-- a line, and whether a line feed ended it
abbrev pub Line : Type 0
Line = List ℕ × Bool

pub data LineReading : Type 0 where
  long : LineReading  -- it has more than 4,096 bytes
  cut : LineReading  -- the text ends inside it
  malformed : LineReading  -- no item has this text
  says : Item → LineReading

abbrev pub said : Option Item → LineReading
said None = malformed
said (Some i) = says i

abbrev pub reading_of : Line → LineReading
reading_of l = if nat_lt 4096 (length l.0) then long else if l.1 then said (item_of l.0) else cut

-- the fault of a line that isn't the text of an item
abbrev pub form_fault : List Goal → LineFault
form_fault [] = faults.BehindEnd
form_fault (header ts ∷ gs) = faults.Header
form_fault (opening t ∷ gs) = faults.Form
form_fault (tree v t b d ∷ gs) = faults.Form
form_fault (close ∷ gs) = faults.Form

-- a result with the number of its fault
abbrev pub by_number : Result (List Goal) LineFault → Result (List Goal) ℕ
by_number (Ok gs) = Ok gs
by_number (Err fault) = Err (number_of fault)

-- what must still follow after a line, or the number of its fault; 903 is the reader's own
abbrev pub after_reading : Judge → ℕ → List Goal → LineReading → Result (List Goal) ℕ
after_reading judge made gs long = Err long_line
after_reading judge made gs cut = by_number (Err faults.Cut)
after_reading judge made gs malformed = by_number (Err (form_fault gs))
after_reading judge made gs (says i) = by_number (after judge made gs i)

abbrev pub made_after : ℕ → LineReading → ℕ
made_after made long = made
made_after made cut = made
made_after made malformed = made
made_after made (says i) = made_by made i

-- ---- a text

-- a fault at a line, the number of the last line read, and the lines after it
pub record Refusal : Type 0 where
  pub fault : Fault
  pub last : ℕ
  pub behind : List Line

abbrev pub at_line : ℕ → ℕ → Fault
at_line number n = fault_at number (places.Line n)

abbrev pub refusal_at : ℕ → ℕ → List Line → Refusal
refusal_at number n ls = record { fault = at_line number n; last = n; behind = ls }

-- the text ends after line n: a fault if anything must still follow
abbrev pub at_end : ℕ → List Goal → Option Refusal
at_end n [] = None
at_end n (g ∷ gs) = Some (record { fault = at_line (number_of faults.Cut) (next_number n); last = n; behind = [] })

-- the refusal at line n, or what `next` returns for the lines after it
abbrev pub goes_on : ℕ → List Line → (List Goal → Option Refusal) → Result (List Goal) ℕ → Option Refusal
goes_on n ls next (Err number) = Some (refusal_at number n ls)
goes_on n ls next (Ok left) = next left

-- the first refusal of the lines after line n, if any
abbrev pub first_refusal : Judge → ℕ → ℕ → List Goal → List Line → Option Refusal
first_refusal judge n made gs [] = at_end n gs
first_refusal judge n made gs (l ∷ ls) =
    goes_on (next_number n) ls (λ left. first_refusal judge (next_number n) (made_after made (reading_of l)) left ls)
    (after_reading judge made gs (reading_of l))
