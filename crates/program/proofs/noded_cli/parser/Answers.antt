use Rattle.std.proofs.Common.{◌∙◌, ap₂, refl}
use Rattle.std.proofs.lemmas.Result.{IfOk-weaker}
use Rattle.clap.specs.Words.{with_rule}
use Rattle.program.specs.NodedLine.{noded_app}
use Rattle.program.proofs.noded_cli.parser.Goals as goal

pub returns-clause-shape : goal.returns-clause-shape
unfolding noded_app
returns-clause-shape c =
    let one = c.in_ok-arg.ensures.shape c.word_arg.ensures.wanted.own.local ∙ ap₂ with_rule c.described.ensures.app c.word_arg.ensures.rule in
    let two = c.in_ok-arg-2.ensures.shape c.edges_arg.ensures.wanted.own.local ∙ ap₂ with_rule one c.edges_arg.ensures.rule in
    IfOk-weaker c.arg-3.result _ _ (λ r h. h.shape c.workers_arg.ensures.number.own.local ∙ ap₂ with_rule two c.workers_arg.ensures.rule) c.arg-3.ensures

pub returns-clause-chain : goal.returns-clause-chain
returns-clause-chain c =
    IfOk-weaker c.arg-3.result _ _ (λ r h. record {
      start = c.described.result;
      word = c.word_arg.result;
      edges = c.edges_arg.result;
      workers = c.workers_arg.result;
      chain = (_, c.in_ok-arg.ensures, (_, c.in_ok-arg-2.ensures, (_, h, refl)));
      no_args = c.described.ensures.empty.0;
      no_groups = c.described.ensures.empty.1;
      no_globals = c.described.ensures.local;
      no_negation = c.described.ensures.negates;
      is_word = c.word_arg.ensures.wanted;
      is_edges = c.edges_arg.ensures.wanted;
      is_workers = c.workers_arg.ensures.number;
      workers_default = c.workers_arg.ensures.default;
    }) c.arg-3.ensures
