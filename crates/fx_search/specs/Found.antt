-- What a search finds.
use Rattle.std.specs.Prelude.{◌≡◌, ℕ, ◌≤◌, Bool, List, [], ◌∷◌, ◌||◌, false, map, if◌then◌else◌}
use Rattle.std.specs.List.{AllByRecursion}
use Rattle.fx_elements.specs.Axes.{axis_index}
use Rattle.fx_boxes.specs.Boxes.{Bounds, below_part, above_part}
use Rattle.fx_base.specs.Lines.{text_lines}
use Rattle.fx_cert.specs.ItemText.{item_text}
use Rattle.fx_cert.specs.declared.item.Item.{Item}
use Rattle.fx_cert.specs.declared.item.Version.{Version}
use Rattle.fx_cert.specs.declared.item.Version.TheVariants.{One, Two}
use Rattle.fx_tables.specs.declared.traffic.Crossing.{Crossing}
use Rattle.fx_machine.specs.Claim.{ExactlyOnce, OnceModulo}
use Rattle.fx_tables.specs.Classes.{Class}
use Rattle.fx_tables.specs.Network.{Net}
use Rattle.fx_run_text.specs.RunText.{lines_text}
use Rattle.fx_leaf.specs.Certificates.{Tree, Leaf, Uncounted, Split, Sound}
use Rattle.fx_leaf.specs.Splits.{IsSplit}
use Rattle.fx_traffic.specs.Targets.{Target, targets_of}
use Rattle.fx_check.specs.Certificates.{AreFor, in_a_row, sizes, IsShallow, certificate_items, IsCertificate}
use Rattle.fx_refute.specs.Refutations.{Refutes}
use Rattle.fx_search.specs.Fronts.{most_lines}
use Rattle.fx_search.specs.declared.found.Found.{Found}
use Rattle.fx_search.specs.declared.found.Found.TheVariants as found

-- each split of the tree is at a bound of something that cuts its region
abbrev pub AtBounds : Net → List Crossing → Bounds → Tree → Type 0
AtBounds net path region (Leaf crossing point process) = Unit {0}
AtBounds net path region Uncounted = Unit {0}
AtBounds net path region (Split axis at below above) =
    IsSplit net path region axis at × AtBounds net path (below_part region (axis_index axis) at) below
    × AtBounds net path (above_part region (axis_index axis) at) above

abbrev pub AllAtBounds : Net → List Target → List Tree → Type 0
AllAtBounds net (t ∷ ts) (x ∷ xs) = AtBounds net t.crossings t.region x × AllAtBounds net ts xs
AllAtBounds net _ _ = Unit {0}

abbrev pub some_exempt : List Class → Bool
some_exempt [] = false
some_exempt (class ∷ classes) = class.exempt || some_exempt classes

-- the version of the certificates for these classes: version 2 exactly if some class is exempt
abbrev pub version_for : List Class → Version
version_for classes = if some_exempt classes then Two else One

-- the items of a sound certificate with at most `limit` split and leaf lines
pub record IsFound (net : Net) (classes : List Class) (limit : ℕ) (items : List Item) : Type 0 where
  pub trees : List (List Tree)
  pub each : AreFor classes trees
  pub sound : Sound net classes trees
  pub shallow : AllByRecursion (IsShallow 0) (in_a_row trees)
  pub bounds : AllAtBounds net (targets_of classes) (in_a_row trees)
  pub items_are : items ≡ certificate_items (version_for classes) (targets_of classes) (in_a_row trees)
  pub few : sizes (in_a_row trees) ≤ most_lines limit

-- the text of a certificate
abbrev pub certificate_text : List Item → List ℕ
certificate_text items = lines_text (map item_text items)

-- a certificate whose splits are at bounds, and whose text the checker accepts; or a run that refutes
abbrev pub IsRight : Net → List Class → ℕ → Found → Type 0
IsRight net classes limit (found.Certificate items) = IsFound net classes limit items.items
    × IsCertificate net classes (text_lines (certificate_text items.items))
IsRight net classes limit (found.Refutation r) = Refutes net classes r

-- for a certificate each packet is counted exactly once, and those of exempt classes never, also modulo 2 to the 64;
-- for a refutation this isn't the case
abbrev pub Settles : Net → List Class → Found → Type 0
Settles net classes (found.Certificate items) = ExactlyOnce net classes × OnceModulo net classes
Settles net classes (found.Refutation r) = ExactlyOnce net classes → ⊥
