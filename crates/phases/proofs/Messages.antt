-- What is bridged over a border.
use Rattle.std.proofs.Common.{◌≡◌, ℕ, ◌+◌, List, sym, ◌∙◌}
use Rattle.std.specs.Prelude.{ℤ, count_by}
use Rattle.geom.specs.declared.edge.Edge.{Edge}
use Rattle.geom.specs.declared.edge.Counted.{Counted}
use Rattle.geom.specs.declared.segment.Source.{Source}
use Rattle.geom.specs.declared.segment.Source.TheVariants.{A, B}
use Rattle.geom.specs.Rounded.{joins}
use Rattle.linking.specs.declared.link.Link.{Link}
use Rattle.linking.specs.Links.{AreCounts, count_links}
use Rattle.strips_law.specs.declared.line.Open.{Open}
use Rattle.strips_law.specs.declared.line.Carried.{Carried}
use Rattle.std.specs.List.{AllZip}
use Rattle.strips_law.specs.declared.line.Line.{Line}
use Rattle.strips_law.specs.Strips.{AreAcross, AreCarried, AreCountsOf, AreOrdered, CarriesOn, IsRoundedStrip, steps_over}
use Rattle.strips_law.proofs.Bridged.{bridged}
use Rattle.phases.specs.Bridged.{AreApart, ArePassing}

-- links that are made of steps are counted as these are
pub counts_are : (right : List Open) (carried : List Carried) (links : List Link) (counted : List Counted) → ((e : Edge) (layer : Source) → count_links e layer links ≡ count_by (joins e) (steps_over layer right carried)) → AreCounts links counted → AreCountsOf (steps_over A right carried) (steps_over B right carried) counted
counts_are right carried links counted same h = record {
  ascending = h.ascending;
  exact = λ c. (
    λ m. let (a, b, p) = (h.exact c).0 m in (sym (same c.edge A) ∙ a, sym (same c.edge B) ∙ b, p),
    λ (a, b, p). (h.exact c).1 (same c.edge A ∙ a, same c.edge B ∙ b, p),
  );
}

-- the edges across a border, and what is carried on
pub bridged_by : (cuts : List ℤ) (strip : ℕ) (lines : List Line) (inner : List Counted) (left right : List Open) (carried : List Carried) → AreOrdered lines → IsRoundedStrip cuts strip lines inner left right → AreCarried cuts (strip + 1) lines carried
    → (links : List Link) → (AreApart right carried → (e : Edge) (layer : Source) → count_links e layer links ≡ count_by (joins e) (steps_over layer right carried)) → (across : List Counted) → AreCounts links across
    → (next : List Carried) → (ArePassing left carried → AllZip (CarriesOn carried) left next) → AreAcross cuts strip lines across × AreCarried cuts strip lines next
bridged_by cuts strip lines inner left right carried ordered r k links same across counts next on =
    let b = bridged cuts strip lines inner left right carried ordered r k in
    (b.across across (counts_are right carried links across (same b.apart) counts), b.goes_on next (on (record { ascending = b.carried_ascends; passing = b.passing })))
