use Rattle.std.proofs.Common.{◌≡◌, ◌∙◌, ◌++◌, ◌∷◌, List, [], ℕ, ap, subst, sym}
use Rattle.std.specs.Prelude.{All, codes, map}
use Rattle.geom.specs.declared.point.Pt.{Pt}
use Rattle.geom.specs.Canonical.{written_rings}
use Rattle.wkt.specs.Canonical.{closed, multi_text}
use Rattle.wkt.specs.Readable.{IsReadable}
use Rattle.wkt.specs.Refusals.{IsLayerOf, StandsFor}
use Rattle.wkt.proofs.Written.{reads, reads_again}
use Rattle.wkt.proofs.Writing.{line_pushed, no_items, rings_first}
use Rattle.wkt.proofs.Inside.{all_of}
use Rattle.wkt.proofs.write.write_multi.Goals as goal

abbrev Reads : List ℕ → List (List Pt) → Type 0
Reads text rings = (line : List ℕ) × (text ≡ line ++ 10 ∷ []) × IsLayerOf line (map closed rings)

pub returns-in_default-clause-reads : goal.returns-in_default-clause-reads
returns-in_default-clause-reads g c =
    let none = no_items c.args.polygons.now c.in_default.ensures.cases in
    let text = c.in_ok-from_slice.ensures.items ∙ ap multi_text (sym none) in
    subst (λ (t : List ℕ). Reads t (written_rings c.args.polygons.now)) (sym text)
    (reads c.args.polygons.now (subst (λ ps. All IsReadable (written_rings ps)) (sym none) (all_of IsReadable [] tt)))

pub returns-in_default-clause-reads_again : goal.returns-in_default-clause-reads_again
returns-in_default-clause-reads_again g c = λ inside.
    let none = no_items c.args.polygons.now c.in_default.ensures.cases in
    let text = c.in_ok-from_slice.ensures.items ∙ ap multi_text (sym none) in
    subst (λ (t : List ℕ). StandsFor t (written_rings c.args.polygons.now)) (sym text)
    (reads_again c.args.polygons.now (subst (λ ps. All IsReadable (written_rings ps)) (sym none) (all_of IsReadable [] tt)) inside)

pub returns-clause-text : goal.returns-clause-text
returns-clause-text g c =
    line_pushed c.in-Some.first.now c.in-Some.rest.now c.extend_from_slice.new.self.items c.push_polygon.new.text.items c.push_more_polygons.new.text.items c.extend_from_slice-2.new.self.items
    (c.in_ok-extend_from_slice.ensures.items ∙ ap (λ (t : List ℕ). t ++ codes "MULTIPOLYGON (") c.in_ok-text.ensures.items) c.in_ok-push_polygon.ensures.text c.in_ok-push_more_polygons.ensures.text c.in_ok-extend_from_slice-2.ensures.items
    ∙ ap multi_text (sym c.in-Some.ensures.cases.0)

pub returns-clause-reads : goal.returns-clause-reads
returns-clause-reads g c =
    let readable = subst (λ ps. All IsReadable (written_rings ps)) (sym c.in-Some.ensures.cases.0) (rings_first IsReadable c.in-Some.first.now c.in-Some.rest.now c.in_ok-push_polygon.ensures.readable c.in_ok-push_more_polygons.ensures.readable) in
    subst (λ (t : List ℕ). Reads t (written_rings c.args.polygons.now)) (sym (returns-clause-text g c)) (reads c.args.polygons.now readable)

pub returns-clause-reads_again : goal.returns-clause-reads_again
returns-clause-reads_again g c = λ inside.
    let text = returns-clause-text g c in
    let readable = subst (λ ps. All IsReadable (written_rings ps)) (sym c.in-Some.ensures.cases.0) (rings_first IsReadable c.in-Some.first.now c.in-Some.rest.now c.in_ok-push_polygon.ensures.readable c.in_ok-push_more_polygons.ensures.readable) in
    subst (λ (t : List ℕ). StandsFor t (written_rings c.args.polygons.now)) (sym text)
    (reads_again c.args.polygons.now readable inside)
