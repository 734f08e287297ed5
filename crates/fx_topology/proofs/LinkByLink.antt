-- The faults and meanings of links, one link at a time.
use Rattle.std.proofs.Common.{◌≡◌, ℕ, ◌+◌, ◌<◌, List, [], ◌∷◌, ◌++◌, length, get_or, drop, map, refl, sym, ap, ◌∙◌, arith, append_assoc}
use Rattle.std.proofs.lemmas.List.{drop_more}
use Rattle.serde_json.specs.Data.{Data}
use Rattle.fx_base.specs.declared.fault.Fault.{Fault}
use Rattle.fx_walk.specs.Pointer.{nth}
use Rattle.fx_walk.specs.Walk.{Refuses}
use Rattle.fx_walk.proofs.Faults.{refuses_more}
use Rattle.fx_topology.specs.Links.{link_faults, link_of, links_faults}
use Rattle.fx_topology.specs.declared.link.NamedLink.{NamedLink}
use Rattle.fx_topology.specs.declared.network_device.NetworkDevice.{NetworkDevice}

-- the item at a place and what is behind it
pub drop_item : {X : Type 0} (xs : List X) (n k : ℕ) (x : X) → n ≡ k → k < length xs → x ≡ get_or xs k x → drop n xs ≡ x
    ∷ drop (n + 1) xs
drop_item {X} xs n k x e lt is =
    let within : n < length xs = omega (arith, e) in
    let here : get_or xs n x ≡ x = rw e (sym is) in
    drop_more xs n x within ∙ ap (λ (y : X). y ∷ drop (n + 1) xs) here

pub next_faults : (devices : List NetworkDevice) (before after : List NamedLink) (up : List ℕ) (i : ℕ) (d : Data)
    (all rest : List Data) (link : NamedLink) → all ≡ d ∷ rest → after ≡ before ++ link ∷ []
    → link_faults devices before (nth up i) d ≡ [] → link ≡ link_of d → links_faults devices before up i all
    ≡ links_faults devices after up (i + 1) rest
next_faults devices before after up i d all rest link items links none is = rw (items, links, none, is) refl

pub next_values : (before after : List NamedLink) (d : Data) (all rest : List Data) (link : NamedLink) → all ≡ d ∷ rest
    → after ≡ before ++ link ∷ [] → link ≡ link_of d → after ++ map link_of rest ≡ before ++ map link_of all
next_values before after d all rest link items links is =
    rw (items, links, is) (append_assoc before (link_of d ∷ []) (map link_of rest))

-- where it is refused, they are
pub refused_here : (devices : List NetworkDevice) (before : List NamedLink) (up : List ℕ) (i : ℕ) (d : Data)
    (all rest : List Data) (e : Fault) → all ≡ d ∷ rest → Refuses e (link_faults devices before (nth up i) d)
    → Refuses e (links_faults devices before up i all)
refused_here devices before up i d all rest e items refused = rw items (refuses_more e _ _ refused)
