-- What is known of an edge that the strips are of.
use Rattle.std.proofs.Common.{◌≡◌, List, [], Option, Some, None, map, sym, ap, subst}
use Rattle.std.specs.Prelude.{All, Contains, ◌≤ℤ◌}
use Rattle.std.proofs.lemmas.List.Elements.{All-contains}
use Rattle.geom.specs.declared.edge.Counted.{Counted}
use Rattle.geom.specs.declared.edge.Edge.{Edge}
use Rattle.geom.specs.declared.op.Op.{Op}
use Rattle.geom.specs.Limit.{AreInLimit}
use Rattle.geom.specs.Rounded.{edges_of}
use Rattle.geom.proofs.Lists.{In, contains_in, in_contains, in_map}
use Rattle.geom.specs.Label.{both_ways, ways_by}
use Rattle.face_label.specs.Strip.{AreLayerStrips, AreStripsOf, IsSetOf, IsSpanned, StripedLayer, StripedLayers, layers_at}
use Rattle.geom.proofs.Listing.{layers_of}
use Rattle.face_label.proofs.Sides.{all_ways, ways_in_strips}

set_is : (counted : List Counted) (set : Option StripedLayers) (s : StripedLayers) → Some s ≡ set → IsSetOf counted set → AreStripsOf counted s
set_is counted set s e h = subst (IsSetOf counted) (sym e) h

-- strips reach over each edge that they are of
over : (counted : List Counted) (odd : List Edge) (l : StripedLayer) (c : Counted) → AreLayerStrips counted odd l → Contains counted c → IsSpanned l c.edge
over counted odd l c h i = let s = All-contains (λ (d : Counted). (l.strips.low ≤ℤ d.edge.p.x) × (d.edge.q.x ≤ℤ l.strips.high)) counted c h.columns.spans i in record { left = s.0; right = s.1 }

reaches : (counted : List Counted) (s : StripedLayers) (c : Counted) → AreStripsOf counted s → Contains counted c → AreInLimit c.edge.p c.edge.q × (IsSpanned s.a c.edge × IsSpanned s.b c.edge)
reaches counted s c h i = (All-contains (λ (d : Counted). AreInLimit d.edge.p d.edge.q) counted c h.in_limit i, (over counted _ s.a c h.a i, over counted _ s.b c h.b i))

-- an edge of rounded edges, with its counts
one_of : (counted : List Counted) (e : Edge) → Contains (edges_of counted) e → (c : Counted) × In c counted × (c.edge ≡ e)
one_of counted e h = in_map (λ (c : Counted). c.edge) counted e (contains_in (edges_of counted) e h)

-- asked over its strip, an edge is one of the result exactly as over all odd edges
pub set_ways : (op : Op) (set : Option StripedLayers) (s : StripedLayers) (counted : List Counted) (e : Edge) → Some s ≡ set → IsSetOf counted set → Contains (edges_of counted) e
    → both_ways op (layers_at s.a s.b e) e ≡ ways_by op counted e
set_ways op set s counted e same h i =
    let are = set_is counted set s same h in
    let one = one_of counted e i in
    let r = subst (λ (f : Edge). AreInLimit f.p f.q × (IsSpanned s.a f × IsSpanned s.b f)) one.2 (reaches counted s one.0 are (in_contains counted one.0 one.1)) in
    ways_in_strips op (layers_of counted) s.a s.b e are.a.striped are.b.striped r.1 r.0

-- and so of all edges
all_reached : (counted : List Counted) (set : Option StripedLayers) (s : StripedLayers) → Some s ≡ set → IsSetOf counted set → All (λ c. IsSpanned s.a c.edge × IsSpanned s.b c.edge) counted
all_reached counted set s same h k d l = let are = set_is counted set s same h in let a = are.a.columns.spans k d l in let b = are.b.columns.spans k d l in
    (record { left = a.0; right = a.1 }, record { left = b.0; right = b.1 })

pub all_set_ways : (op : Op) (counted : List Counted) (set : Option StripedLayers) (s : StripedLayers) → Some s ≡ set → IsSetOf counted set
    → map (λ c. both_ways op (layers_at s.a s.b c.edge) c.edge) counted ≡ map (λ c. ways_by op counted c.edge) counted
all_set_ways op counted set s same h = let are = set_is counted set s same h in
    all_ways op (layers_of counted) s.a s.b counted are.a.striped are.b.striped (all_reached counted set s same h) are.in_limit

pub none_ways : (op : Op) (counted : List Counted) (set : Option StripedLayers) → None ≡ set → IsSetOf counted set → [] ≡ map (λ c. ways_by op counted c.edge) counted
none_ways op counted set same h = let none : counted ≡ [] = subst (IsSetOf counted) (sym same) h in sym (ap (λ (cs : List Counted). map (λ c. ways_by op counted c.edge) cs) none)
