-- Which aggregations of a collecting process accept a record, and the record's key in each.
use Rattle.std.specs.Prelude.{List, [], ◌∷◌, ◌++◌, slice_get, if◌then◌else◌}
use Rattle.fx_layout.specs.Keys.{Key, project}
use Rattle.fx_tables.specs.declared.holding.Holding.{Holding}
use Rattle.fx_tables.specs.Network.{Holder, AggregationEntry, layout_of, takes_with}

-- the aggregation with the projected key, if it accepts the key
abbrev pub intake_of : List Holder → Key → AggregationEntry → List Holding
intake_of holders key a =
    if takes_with holders key a then record {
      holder = a.holder;
      key =
          project key (layout_of (slice_get holders a.holder));
    } ∷ [] else []

abbrev pub intakes : List Holder → Key → List AggregationEntry → List Holding
intakes holders key [] = []
intakes holders key (a ∷ rest) = intake_of holders key a ++ intakes holders key rest
