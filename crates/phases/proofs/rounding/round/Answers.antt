use Rattle.std.proofs.Common.{◌+◌, ◌<◌, List, ap, length, subst, sym, ◌∙◌}
use Rattle.std.specs.Prelude.{All, Option}
use Rattle.geom.specs.declared.segment.Seg.{Seg}
use Rattle.geom.specs.Limit.{AreInLimit}
use Rattle.routing.specs.declared.record.Record.{Record}
use Rattle.linking.specs.Links.{AreApart, AreNeighbourLinks, layer_link}
use Rattle.strips_law.specs.Strips.{IsInStrip}
use Rattle.phases.specs.Nearest.{AreNearest, opens_at}
use Rattle.phases.specs.Records.{AreRecordsIn}
use Rattle.phases.specs.declared.nearest.Side.TheVariants.{Left, Right}
use Rattle.phases.proofs.Parts.{all_apart, all_below, all_numbered}
use Rattle.phases.proofs.Rounds.{all_limited, round_is}
use Rattle.phases.proofs.rounding.round.Goals as goal

pub strip_records-requires : goal.strip_records-requires
strip_records-requires g c = record {
  ascending = c.requires.ascending;
  within = c.requires.within;
  limits = subst (λ (ss : List Seg). All (λ s. AreInLimit s.a s.b) ss) (sym (c.deref.ensures.value ∙ c.in_ok-near.ensures)) (all_limited c.args.lines.now c.requires.limits);
}

pub nearest-requires : goal.nearest-requires
nearest-requires g c =
    subst (λ (rs : List Record). All (λ r. r.segment < length c.args.lines.now) rs) (sym c.deref-2.ensures.value) (all_numbered (IsInStrip c.args.cuts.now c.args.strip) c.args.lines.now c.in_ok-records.records.items (subst (λ (ss : List Seg). AreRecordsIn (IsInStrip c.args.cuts.now c.args.strip) ss c.in_ok-records.records.items) (c.deref.ensures.value ∙ c.in_ok-near.ensures) c.in_ok-records.ensures))

pub nearest-requires-2 : goal.nearest-requires-2
nearest-requires-2 g c =
    subst (λ (rs : List Record). All (λ r. r.segment < length c.args.lines.now) rs) (sym c.deref-4.ensures.value) (all_numbered (IsInStrip c.args.cuts.now c.args.strip) c.args.lines.now c.in_ok-records.records.items (subst (λ (ss : List Seg). AreRecordsIn (IsInStrip c.args.cuts.now c.args.strip) ss c.in_ok-records.records.items) (c.deref.ensures.value ∙ c.in_ok-near.ensures) c.in_ok-records.ensures))

pub links_between-requires : goal.links_between-requires
links_between-requires g c =
    let cuts = c.args.cuts.now in
    let strip = c.args.strip in
    let lines = c.args.lines.now in
    let records = c.in_ok-records.records.items in
    let are = subst (λ (ss : List Seg). AreRecordsIn (IsInStrip cuts strip) ss records) (c.deref.ensures.value ∙ c.in_ok-near.ensures) c.in_ok-records.ensures in
    let segments_are = c.deref-6.ensures.value ∙ c.in_ok-near.ensures in
    let records_are = c.deref-7.ensures.value in
    record {
      below = subst (λ (p : List Seg × List Record). All (λ r. r.segment < length p.0) p.1) (λ i. (sym segments_are i, sym records_are i)) (all_below (IsInStrip cuts strip) lines records are);
      apart = subst (λ (rs : List Record). AreApart rs) (sym records_are) (all_apart (IsInStrip cuts strip) lines records are);
    }

pub counts-requires : goal.counts-requires
counts-requires g c = record { short = c.in_ok-links.ensures.1 }

pub returns : goal.returns
returns g c =
    let cuts = c.args.cuts.now in
    let strip = c.args.strip in
    let lines = c.args.lines.now in
    let records = c.in_ok-records.records.items in
    let links = c.in_ok-links.links.items in
    let inner = c.in_ok-inner.inner.items in
    let firsts = c.in_ok-firsts.firsts.items in
    let lasts = c.in_ok-lasts.lasts.items in
    let near = c.in_ok-near.ensures in
    let are = subst (λ (ss : List Seg). AreRecordsIn (IsInStrip cuts strip) ss records) (c.deref.ensures.value ∙ near) c.in_ok-records.ensures in
    let links_are = subst (λ (p : List Seg × List Record). AreNeighbourLinks layer_link p.0 p.1 links) (λ i. ((c.deref-6.ensures.value ∙ near) i, c.deref-7.ensures.value i)) c.in_ok-links.ensures.0 in
    let first_are = subst (λ (rs : List Record). AreNearest Left (length lines) rs firsts) c.deref-2.ensures.value c.in_ok-firsts.ensures in
    let last_are = subst (λ (rs : List Record). AreNearest Right (length lines) rs lasts) c.deref-4.ensures.value c.in_ok-lasts.ensures in
    let left_is = c.in_ok-left.ensures ∙ ap (λ (ns : List (Option Record)). opens_at cuts strip lines ns) c.deref-3.ensures.value in
    let right_is = c.in_ok-right.ensures ∙ ap (λ (ns : List (Option Record)). opens_at cuts (strip + 1) lines ns) c.deref-5.ensures.value in
    rw (left_is, right_is) (∣ round_is cuts strip lines records are links inner firsts lasts links_are c.in_ok-inner.ensures first_are last_are ∣₁)
