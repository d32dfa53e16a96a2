use Rattle.std.proofs.Common.{◌∙◌, ap₂, refl}
use Rattle.std.proofs.lemmas.Result.{IfOk-weaker}
use Rattle.clap.specs.Words.{with_rule}
use Rattle.program.specs.CommandLine.{overlay_app}
use Rattle.program.proofs.cli.parser.Goals as goal

pub returns-clause-shape : goal.returns-clause-shape
unfolding overlay_app
returns-clause-shape c =
    let one = c.in_ok-arg.ensures.shape c.word_arg.ensures.wanted.own.local ∙ ap₂ with_rule c.described.ensures.app c.word_arg.ensures.rule in
    let two = c.in_ok-arg-2.ensures.shape c.file_arg.ensures.wanted.own.local ∙ ap₂ with_rule one c.file_arg.ensures.rule in
    let three = c.in_ok-arg-3.ensures.shape c.file_arg-2.ensures.wanted.own.local ∙ ap₂ with_rule two c.file_arg-2.ensures.rule in
    let four = c.in_ok-arg-4.ensures.shape c.number_arg.ensures.number.own.local ∙ ap₂ with_rule three c.number_arg.ensures.rule in
    let five = c.in_ok-arg-5.ensures.shape c.workers_arg.ensures.number.own.local ∙ ap₂ with_rule four c.workers_arg.ensures.rule in
    let six = c.in_ok-arg-6.ensures.shape c.number_arg-2.ensures.number.own.local ∙ ap₂ with_rule five c.number_arg-2.ensures.rule in
    let seven = c.in_ok-arg-7.ensures.shape c.flag_arg.ensures.flag.local ∙ ap₂ with_rule six c.flag_arg.ensures.rule in
    let eight = c.in_ok-arg-8.ensures.shape c.flag_arg-2.ensures.flag.local ∙ ap₂ with_rule seven c.flag_arg-2.ensures.rule in
    IfOk-weaker c.arg-9.result _ _ (λ r h. h.shape c.flag_arg-3.ensures.flag.local ∙ ap₂ with_rule eight c.flag_arg-3.ensures.rule) c.arg-9.ensures

pub returns-clause-chain : goal.returns-clause-chain
returns-clause-chain c =
    IfOk-weaker c.arg-9.result _ _ (λ r h. record {
      start = c.described.result;
      word = c.word_arg.result;
      a = c.file_arg.result;
      b = c.file_arg-2.result;
      tile = c.number_arg.result;
      workers = c.workers_arg.result;
      segments = c.number_arg-2.result;
      report = c.flag_arg.result;
      covered = c.flag_arg-2.result;
      areas = c.flag_arg-3.result;
      chain = (_, c.in_ok-arg.ensures, (_, c.in_ok-arg-2.ensures, (_, c.in_ok-arg-3.ensures, (_, c.in_ok-arg-4.ensures, (_, c.in_ok-arg-5.ensures, (_, c.in_ok-arg-6.ensures, (_, c.in_ok-arg-7.ensures, (_, c.in_ok-arg-8.ensures, (_, h, refl)))))))));
      no_args = c.described.ensures.empty.0;
      no_groups = c.described.ensures.empty.1;
      no_globals = c.described.ensures.local;
      no_negation = c.described.ensures.negates;
      is_word = c.word_arg.ensures.wanted;
      is_a = c.file_arg.ensures.wanted;
      is_b = c.file_arg-2.ensures.wanted;
      is_tile = c.number_arg.ensures.number;
      is_workers = c.workers_arg.ensures.number;
      workers_default = c.workers_arg.ensures.default;
      is_segments = c.number_arg-2.ensures.number;
      is_report = c.flag_arg.ensures.flag;
      is_covered = c.flag_arg-2.ensures.flag;
      is_areas = c.flag_arg-3.ensures.flag;
    }) c.arg-9.ensures
