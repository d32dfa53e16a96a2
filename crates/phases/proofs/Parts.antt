-- The parts of routes that the records of a strip tell, and the edges that they make.
use Rattle.std.proofs.Common.{◌≡◌, ℕ, suc, ◌+◌, ◌<◌, List, [], ◌∷◌, refl, sym, ap, ◌∙◌, subst, arith, length}
use Rattle.std.proofs.lemmas.List.{length-map}
use Rattle.std.proofs.lemmas.Option.{slice_get_within}
use Rattle.std.specs.Prelude.{All, Bool, Some, count_by, get_or, slice_get}
use Rattle.std.specs.List.{AllZip}
use Rattle.std.proofs.lemmas.List.Elements.{Contains-get_or}
use Rattle.geom.specs.declared.point.Pt.{Pt}
use Rattle.geom.specs.declared.segment.Seg.{Seg}
use Rattle.geom.specs.declared.segment.Source.{Source}
use Rattle.geom.specs.declared.segment.Source.TheVariants.{A, B}
use Rattle.geom.specs.declared.edge.Counted.{Counted}
use Rattle.geom.specs.declared.edge.Edge.{Edge}
use Rattle.geom.specs.Rounded.{joins}
use Rattle.routing.specs.declared.record.Record.{Record}
use Rattle.linking.specs.declared.link.Link.{Link}
use Rattle.linking.specs.Links.{AreApart, AreCounts, AreNeighbourLinks, PassLinks, count_links, layer_link, wanted_steps}
use Rattle.linking.proofs.CopyLinks.{layer_count}
use Rattle.linking.proofs.Flat.{AreFrom, AreFrom-later, StandFrom, StandFrom-first, StandFrom-rest, flat_count, in_route, passes_at_is, route_ordered, routes_from}
use Rattle.linking.proofs.Walk.{layer_steps_are, pixels_differ}
use Rattle.strips_law.specs.declared.line.Line.{Line}
use Rattle.strips_law.specs.Strips.{AreCountsOf, AreRoutesIn, IsRouteIn, line_steps, segments_of}
use Rattle.phases.specs.Records.{AreRecordsIn}

routes_in : (In : Pt → Type 0) (segments : List Seg) (k : ℕ) (lines : List Line) (records : List Record) → StandFrom segments k (segments_of lines) → AreFrom In segments k records
    → AllZip (λ l part. IsRouteIn In segments l.segment part) lines (routes_from k (segments_of lines) records)
routes_in In segments k [] records stand are = tt
routes_in In segments k (l ∷ ls) records stand are =
    let at = StandFrom-first segments k l.segment (segments_of ls) stand in (
      record { exact = in_route In segments k l.segment records at are; ordered = route_ordered In segments k l.segment records at are },
      routes_in In segments (suc k) ls _ (StandFrom-rest segments k l.segment (segments_of ls) stand) (AreFrom-later In segments k records are),
    )

module _ (In : Pt → Type 0) (lines : List Line) (records : List Record) (are : AreRecordsIn In (segments_of lines) records) where
  abbrev pub parts : List (List Pt)
  parts = routes_from 0 (segments_of lines) records

  from : AreFrom In (segments_of lines) 0 records
  from = record { ascending = are.ascending; exact = λ r. (λ h. ((are.exact r).0 h, omega arith), λ h. (are.exact r).1 h.0) }

  pub are_parts : AreRoutesIn In lines parts
  are_parts = routes_in In (segments_of lines) 0 lines records (λ j s at. let e : j ≡ 0 + j = omega arith in subst (λ (n : ℕ). slice_get (segments_of lines) n ≡ Some s) e at) from

  pub all_numbered : All (λ r. r.segment < length lines) records
  all_numbered k d l =
      let r = ((are.exact (get_or records k d)).0 (Contains-get_or records k d l)).0 in
      let w = slice_get_within (segments_of lines) (get_or records k d).segment r.s r.is_at in
      let n = length-map lines (λ (l : Line). l.segment) in
      omega (arith, w, n)

  pub all_below : All (λ r. r.segment < length (segments_of lines)) records
  all_below k d l = let r = ((are.exact (get_or records k d)).0 (Contains-get_or records k d l)).0 in slice_get_within (segments_of lines) (get_or records k d).segment r.s r.is_at

  pub all_apart : AreApart records
  all_apart i j d a b e f =
      let known : (n : ℕ) → n < length records → _ = λ n l. ((are.exact (get_or records n d)).0 (Contains-get_or records n d l)).0 in
      pixels_differ (segments_of lines) (get_or records i d) (get_or records j d) (known i (omega (arith, a, b))) (known j b) (are.ascending i j d a b) e f

  module _ (links : List Link) (near : AreNeighbourLinks layer_link (segments_of lines) records links) where
    same_count : (e : Edge) (layer : Source) → count_links e layer links ≡ count_by (joins e) (line_steps layer lines parts)
    same_count e layer =
        layer_count e layer links (λ wanted. count_by (joins e) (wanted_steps wanted (segments_of lines) parts)) wanted_count
        ∙ ap (count_by (joins e)) (layer_steps_are layer (segments_of lines) parts)
      where
        wanted_count : (wanted : Seg → Bool) (test : Link → Bool) → PassLinks layer_link e wanted test → count_by test links ≡ count_by (joins e) (wanted_steps wanted (segments_of lines) parts)
        wanted_count wanted test pass =
            near.count_is e wanted test pass
            ∙ flat_count _ e wanted In (segments_of lines) 0 (segments_of lines) (segments_of lines) records refl (omega arith)
            (λ j s at. passes_at_is wanted (segments_of lines) (0 + j) s (let n : j ≡ 0 + j = omega arith in subst (λ (n : ℕ). slice_get (segments_of lines) n ≡ Some s) n at)) from

    pub inner_is : (inner : List Counted) → AreCounts links inner → AreCountsOf (line_steps A lines parts) (line_steps B lines parts) inner
    inner_is inner counts = record {
      ascending = counts.ascending;
      exact = λ c. (
        (λ h. let (a, b, some) = (counts.exact c).0 h in (sym (same_count c.edge A) ∙ a, sym (same_count c.edge B) ∙ b, some)),
        (λ (a, b, some). (counts.exact c).1 (same_count c.edge A ∙ a, same_count c.edge B ∙ b, some)),
      );
    }
