-- How a certificate grows as a search goes on.
use Rattle.std.specs.Prelude.{◌≡◌, ◌≢◌, ◌⊎◌, ◌≤◌, ℕ, ◌+◌, ◌==◌, Bool, List, [], ◌∷◌, ◌++◌, map, reverse, Option, Some, None, if◌then◌else◌}
use Rattle.std.specs.List.{AllByRecursion}
use Rattle.fx_base.specs.declared.fault.Fault.{Fault}
use Rattle.fx_base.specs.declared.fault.Place.TheVariants as places
use Rattle.fx_base.specs.Fault.{fault_at}
use Rattle.fx_cert.specs.declared.item.Item.{Item}
use Rattle.fx_cert.specs.declared.item.Item.TheVariants as item
use Rattle.fx_cert.specs.declared.item.Version.{Version}
use Rattle.fx_tables.specs.declared.packet.Packet.{Packet}
use Rattle.fx_boxes.specs.Boxes.{IsInside}
use Rattle.fx_tables.specs.Classes.{Class}
use Rattle.fx_tables.specs.Network.{Net}
use Rattle.fx_base.specs.Entries.{entry_numbered}
use Rattle.fx_base.specs.Refusals.{search_too_large, want_of_memory}
use Rattle.fx_leaf.specs.declared.judgement.Judgement.{Judgement}
use Rattle.fx_leaf.specs.declared.judgement.Judgement.TheVariants as judged
use Rattle.fx_leaf.specs.Answers.{NothingCuts}
use Rattle.fx_leaf.specs.Certificates.{Tree, SoundTree}
use Rattle.fx_leaf.specs.Fates.{packet_fate, wanted_fate}
use Rattle.fx_leaf.specs.Judgements.{IsJudged}
use Rattle.fx_leaf.specs.PathSelections.{AreNarrowed, PathSelection}
use Rattle.fx_traffic.specs.Targets.{Target}
use Rattle.fx_check.specs.Certificates.{IsShallow, IsWritable, size, tree_items}
use Rattle.fx_check.specs.FirstRefusal.{depth_limit}
use Rattle.fx_search.specs.declared.growing.Waiting.{Waiting}
use Rattle.fx_search.specs.Found.{AtBounds}
use Rattle.fx_search.specs.declared.stop.Stop.{Stop}
use Rattle.fx_search.specs.declared.stop.Why.{Why}
use Rattle.fx_search.specs.declared.stop.Why.TheVariants as why
use Rattle.fx_search.specs.Fronts.{RegionAhead, SearchFront, IsTooLarge, IsTooLargeAt, root}

-- the target's line comes before the tree of a whole target
abbrev pub opening_items : RegionAhead → List Item
opening_items a = if a.depth == 0 then item.Class a.target.class a.target.path ∷ [] else []

-- a tree that a certificate may have for a region
pub record GrowsTree (net : Net) (a : RegionAhead) (x : Tree) : Type 0 where
  pub sound : SoundTree net a.target.crossings a.target.exempt a.region x
  pub bounds : AtBounds net a.target.crossings a.region x
  pub shallow : IsShallow a.depth x

-- these items, with `n` split and leaf lines, are those of trees for the regions ahead, then the last item
abbrev pub Completes : Net → List RegionAhead → List Item → ℕ → Type 0
Completes net [] items n = (items ≡ item.End ∷ []) × (n ≡ 0)
Completes net (a ∷ as') items n =
    (x : Tree) × (rest : List Item) × (m : ℕ) × (items ≡ opening_items a ++ (tree_items x ++ rest)) × GrowsTree net a x
    × (n ≡ size x + m) × Completes net as' rest m

-- whatever completes the regions ahead makes these items, with `n` split and leaf lines, the items of a certificate
abbrev pub IsBegun : Net → List Target → Version → List Item → List RegionAhead → ℕ → Type 0
IsBegun net targets version items ahead n =
    (rest : List Item) (m : ℕ) → Completes net ahead rest m → (body : List Item)
    × (items ++ rest ≡ item.Header version ∷ body) × Completes net (map root targets) body (n + m)

-- the state of a search: the regions ahead, the number of lines, the items so far, and that these items may be written
pub record IsGrowing (net : Net) (targets : List Target) (version : Version) (most : ℕ) (items : List Item) (lines : ℕ)
    (ahead : List RegionAhead) : Type 0 where
  pub front : SearchFront net targets ahead lines
  pub begun : IsBegun net targets version items ahead lines
  pub written : AllByRecursion IsWritable items
  pub few : lines ≤ most

-- ---- the regions of one target

-- the regions ahead, the next one first
abbrev pub front : List Waiting → List RegionAhead
front waiting = reverse (map (λ w. w.ahead) waiting)

abbrev pub AllOf : Target → List Waiting → Type 0
AllOf target [] = Unit {0}
AllOf target (w ∷ ws) = (w.ahead.target ≡ target) × AllOf target ws

-- the regions belong to the target, and are narrowed to the selection processes that may count their packets
pub record AreAhead (selections : List PathSelection) (target : Target) (waiting : List Waiting) : Type 0 where
  pub all : AllOf target waiting
  pub narrowed : AreNarrowed (λ w. w.ahead.region) (λ w. w.active) selections waiting

-- nothing cuts the region, and its least packet hasn't the fate that its class requires
abbrev pub IsWrongAt : Net → RegionAhead → Type 0
IsWrongAt net a = NothingCuts net a.target.crossings a.region
    × (packet_fate net a.region.low a.target.crossings ≢ wanted_fate a.target.exempt)

-- the sound leaf of a region with this judgement, if the leaf is of the required kind
abbrev pub leaf_item : Judgement → Bool → Option Item
leaf_item (judged.Once c) exempt = if exempt then None else Some (item.Leaf c.crossing c.point c.process)
leaf_item judged.Never exempt = if exempt then Some item.Never else None
leaf_item _ exempt = None

-- nothing cuts the region, all its packets have the judged fate, and that isn't the required one
abbrev pub IsUnwantedAt : Net → RegionAhead → Judgement → Type 0
IsUnwantedAt net a j = IsWrongAt net a × IsJudged net a.target.crossings a.region j
    × (leaf_item j a.target.exempt ≡ None)

-- a search stops at a region ahead, for this reason
abbrev pub IsStoppedAt : Net → List Target → ℕ → RegionAhead → Why → Type 0
IsStoppedAt net targets most a (why.Wrong j) = IsUnwantedAt net a j
    × ((rest : List RegionAhead) × (n : ℕ) × SearchFront net targets (a ∷ rest) n)
IsStoppedAt net targets most a (why.TooLarge limit) = IsTooLargeAt net targets most a limit

-- the search passed a region by one more line, or it stops at that region
abbrev pub IsTaken : Net → List Target → Version → ℕ → List Item → ℕ → List RegionAhead → RegionAhead → Option Why
    → Type 0
IsTaken net targets version most items lines ahead a None = IsGrowing net targets version most items lines ahead
IsTaken net targets version most items lines ahead a (Some w) = IsStoppedAt net targets most a w

-- a search ends with only these regions ahead, or stops at a region
abbrev pub IsGrown : Net → List Target → Version → ℕ → List Item → ℕ → List RegionAhead → Option Stop → Type 0
IsGrown net targets version most items lines later None = IsGrowing net targets version most items lines later
IsGrown net targets version most items lines later (Some s) = IsStoppedAt net targets most s.ahead s.why

-- a search gives up: out of memory, or what it needs is too large
abbrev pub IsGivenUp : Net → List Target → ℕ → Fault → Type 0
IsGivenUp net targets most e = (e ≡ fault_at want_of_memory places.None)
    ⊎ ((e ≡ fault_at search_too_large places.None) × IsTooLarge net targets most)

-- the least packet of a region
abbrev pub least_packet : RegionAhead → Packet
least_packet a = record { fields = a.region.low; octets = 1; class = a.target.class; path = a.target.path }

-- ---- the position of a region

-- the target is a path of one of these classes, by number
pub record IsTarget (classes : List Class) (t : Target) : Type 0 where
  pub class : Class
  pub named : entry_numbered classes t.class ≡ Some class
  pub region_is : class.region ≡ t.region
  pub exempt_is : class.exempt ≡ t.exempt
  pub path_is : entry_numbered class.paths t.path ≡ Some t.crossings

-- the target is one of these, the region is inside the target's region, and it isn't too deep
pub record Lies (classes : List Class) (a : RegionAhead) : Type 0 where
  pub target : IsTarget classes a.target
  pub inside : IsInside a.region a.target.region
  pub shallow : a.depth ≤ depth_limit
