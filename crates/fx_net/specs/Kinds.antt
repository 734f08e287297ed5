-- How the stores of caches and aggregations are viewed.
use Rattle.fx_store.specs.Flows.{flows_of}
use Rattle.fx_net.specs.Stores.{Stored, unbounded, bounded}
use Rattle.fx_net.specs.declared.store.StoreKind.{StoreKind}
use Rattle.fx_net.specs.declared.store.StoreKind.TheVariants as kind

abbrev pub stored_of : StoreKind → Stored
stored_of (kind.Unbounded entries) = unbounded (flows_of entries)
stored_of (kind.Bounded recent) = bounded recent
