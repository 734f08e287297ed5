-- What can be said about a region's packets on a path, besides the sound leaf.
use Rattle.std.specs.Prelude.{◌≡◌, ℕ, ◌<◌, true, List, length, Some, None}
use Rattle.fx_boxes.specs.Boxes.{Bounds, IsRegion, holds}
use Rattle.fx_elements.specs.Axes.{Fields}
use Rattle.fx_tables.specs.declared.traffic.Crossing.{Crossing}
use Rattle.fx_tables.specs.Network.{Net}
use Rattle.fx_tables.specs.Ranks.{IsRanked, IsNetwork}
use Rattle.fx_leaf.specs.declared.verdict.Fate.{Fate}
use Rattle.fx_leaf.specs.declared.verdict.Fate.TheVariants.{Once, Never}
use Rattle.fx_leaf.specs.Fates.{packet_fate}
use Rattle.fx_leaf.specs.SoundLeaves.{SelectionsUncut, MatchesUncut, SoundLeaf, SoundNever}
use Rattle.fx_leaf.specs.Verdicts.{SelectionVerdict, path_verdict, counter}
use Rattle.fx_leaf.specs.Reach.{IsMarked, IsClosed, IsVerdict, Agrees}
use Rattle.fx_leaf.specs.Tables.{Numbering, Numbers, Table}

-- nothing cuts the region
abbrev pub NothingCuts : Net → List Crossing → Bounds → Type 0
NothingCuts net path region = SelectionsUncut net path region × MatchesUncut net path region

-- all packets of the region have this fate
abbrev pub AllHave : Net → List Crossing → Bounds → Fate → Type 0
AllHave net path region f = (fields : Fields) → holds region fields ≡ true → packet_fate net fields path ≡ f

-- ---- what verdicts mean

-- if there is no verdict, something cuts the region
abbrev pub NoneIsCut : Net → List Crossing → Bounds → Type 0
NoneIsCut net path region = path_verdict net region path ≡ None → NothingCuts net path region → ⊥

-- if there is a verdict, nothing cuts the region, and the verdict is the fate of all its packets
abbrev pub SomeIsFate : Net → List Crossing → Bounds → Type 0
SomeIsFate net path region = (f : Fate) → path_verdict net region path ≡ Some f → NothingCuts net path region
    × AllHave net path region f

-- if the verdict is `Once`, the selection process that counts the packets makes a sound leaf
abbrev pub OnceIsSound : Net → List Crossing → Bounds → Type 0
OnceIsSound net path region =
    path_verdict net region path ≡ Some Once → (s : SelectionVerdict) × (counter net region path ≡ Some s)
    × SoundLeaf net path region s.crossing s.point s.process

-- no other selection process makes a sound leaf
abbrev pub NoOtherIsSound : Net → List Crossing → Bounds → Type 0
NoOtherIsSound net path region =
    (crossing point process : ℕ) → SoundLeaf net path region crossing point process
    → (path_verdict net region path ≡ Some Once)
    × ((s : SelectionVerdict) → counter net region path ≡ Some s → (s.crossing ≡ crossing) × (s.point ≡ point)
    × (s.process ≡ process))

-- the verdict is `Never` if and only if no packet of the region is counted
abbrev pub NeverIsSound : Net → List Crossing → Bounds → Type 0
NeverIsSound net path region = path_verdict net region path ≡ Some Never → SoundNever net path region

abbrev pub SoundIsNever : Net → List Crossing → Bounds → Type 0
SoundIsNever net path region = SoundNever net path region → path_verdict net region path ≡ Some Never

abbrev pub OnEveryRegion : (Net → List Crossing → Bounds → Type 0) → Type 0
OnEveryRegion says = (net : Net) (path : List Crossing) (region : Bounds) → IsNetwork net → IsRegion region
    → says net path region

-- ---- tables

-- a table whose marked entries agree with the entries from which they are computed holds the verdicts at the marks
abbrev pub TableIsVerdicts : Type 0
TableIsVerdicts =
    (net : Net) (n : Numbering) (region : Bounds) (marks : List ℕ) (table : Table) → IsRanked net → Numbers net n
    → net.report < length net.processes → length table ≡ length net.processes → IsClosed net n marks
    → Agrees net n region marks table → (process number : ℕ) → IsMarked marks process number
    → IsVerdict net n region table process number
