-- What is within the limit: of edges within it, some of them, and their ends.
use Rattle.std.proofs.Common.{⊎_elim, ℕ, ◌-◌, List, ◌++◌, drop, subst, sym}
use Rattle.std.specs.List.{All}
use Rattle.std.specs.Prelude.{slice_range}
use Rattle.geom.specs.declared.point.Pt.{Pt}
use Rattle.geom.specs.declared.edge.Edge.{Edge}
use Rattle.geom.specs.declared.edge.Counted.{Counted}
use Rattle.geom.specs.Limit.{AreInLimit, InLimit}
use Rattle.geom.specs.Rounded.{edges_of}
use Rattle.geom.proofs.Lists.{In, contains_in, in_append, in_map, map_in}
use Rattle.label_sweep.specs.Status.{IsVertexOf}
use Rattle.label_sweep.proofs.Members.{all_of_in, in_drop, in_of_all, in_take}

-- all of these edges
abbrev pub AllInLimit : List Counted → Type 0
AllInLimit cs = All (λ (e : Edge). AreInLimit e.p e.q) (edges_of cs)

-- one of them
pub one_in_limit : (cs : List Counted) → AllInLimit cs → (e : Edge) → In e (edges_of cs) → AreInLimit e.p e.q
one_in_limit cs h e i = in_of_all (λ (e : Edge). AreInLimit e.p e.q) (edges_of cs) h e i

-- some of them
pub some_in_limit : (cs some : List Counted) → AllInLimit cs → ((c : Counted) → In c some → In c cs) → AllInLimit some
some_in_limit cs some h of = all_of_in (λ (e : Edge). AreInLimit e.p e.q) (edges_of some) (λ e i.
    let c = in_map (λ (c : Counted). c.edge) some e i in
    subst (λ (e : Edge). AreInLimit e.p e.q) c.2 (one_in_limit cs h c.0.edge (map_in (λ (c : Counted). c.edge) cs c.0 (of c.0 c.1))))

pub slice_in_limit : (cs : List Counted) → AllInLimit cs → (from next : ℕ) → AllInLimit (slice_range cs from next)
slice_in_limit cs h from next = some_in_limit cs (slice_range cs from next) h (λ c i. in_drop from cs c (in_take (next - from) (drop from cs) c i))

-- the ends of edges of two lists
pub ends_in_limit : (cs ds : List Counted) → AllInLimit cs → AllInLimit ds → (vs : List Pt) → All (IsVertexOf (edges_of (cs ++ ds))) vs → All InLimit vs
ends_in_limit cs ds h k vs ends = all_of_in InLimit vs (λ v i. one v (in_of_all (IsVertexOf (edges_of (cs ++ ds))) vs ends v i))
  where
    one : (v : Pt) → IsVertexOf (edges_of (cs ++ ds)) v → InLimit v
    one v x =
        let c = in_map (λ (c : Counted). c.edge) (cs ++ ds) x.edge (contains_in (edges_of (cs ++ ds)) x.edge x.inside) in
        let l = subst (λ (e : Edge). AreInLimit e.p e.q) c.2 (⊎_elim
        (λ j. one_in_limit cs h c.0.edge (map_in (λ (c : Counted). c.edge) cs c.0 j))
        (λ j. one_in_limit ds k c.0.edge (map_in (λ (c : Counted). c.edge) ds c.0 j))
        (in_append cs ds c.0 c.1)) in
        ⊎_elim (λ e. subst InLimit (sym e) l.a_in) (λ e. subst InLimit (sym e) l.b_in) x.ends
