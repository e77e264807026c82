-- The command is built up argument by argument.
use Rattle.std.proofs.Common.{◌≡◌, ◌∙◌, ap, ap₂, codes, true, refl}
use Rattle.std.proofs.lemmas.Result.{IfOk-weaker}
use Rattle.clap.specs.Words.{App, app_of, new_app, with_rule}
use Rattle.clap.specs.Simple.{app_of_fields, on_top}
use Rattle.clap.specs.declared.builder.command.Command.{Command}
use Rattle.clap.specs.declared.builder.command.Command.TheOpen.{Command-F}
use Rattle.ov_plan.specs.Command.{command, mode_rule, number_rule, text_rule}
use Rattle.ov_plan.proofs.command.command.Goals as goal

-- The command without its rules.
abbrev plain : App → App
plain = on_top (λ s. record s { no_binary_name = true; disable_help_flag = true })

whole : with_rule (with_rule (with_rule (with_rule (with_rule (with_rule (with_rule (with_rule (with_rule (plain (new_app (codes "ovpn"))) mode_rule)
    (number_rule (codes "lanes") 1 64)) (number_rule (codes "head") 0 262144)) (number_rule (codes "first-id") 1 4294967295))
    (text_rule (codes "schedule"))) (number_rule (codes "seed") 0 4294967295)) (number_rule (codes "count") 1 100000))
    (number_rule (codes "turns") 1 4294967295)) (number_rule (codes "port") 1 65344) ≡ command
unfolding command
whole = refl

pub returns : goal.returns
returns c =
    let bare : app_of c.disable_help_flag-bare.result ≡ plain (new_app (codes "ovpn")) =
    ap app_of_fields (c.disable_help_flag-bare.ensures ∙ ap (λ (f : Command-F Command). record f { disable_help_flag = true }) c.no_binary_name.ensures)
    ∙ ap plain c.new.ensures.app in
    let one = c.in_ok-command.ensures ∙ ap₂ with_rule bare c.mode.ensures.rule in
    let two = c.in_ok-command-2.ensures ∙ ap₂ with_rule one c.number.ensures.rule in
    let three = c.in_ok-command-3.ensures ∙ ap₂ with_rule two c.number-2.ensures.rule in
    let four = c.in_ok-command-4.ensures ∙ ap₂ with_rule three c.number-3.ensures.rule in
    let five = c.in_ok-command-5.ensures ∙ ap₂ with_rule four c.text.ensures.rule in
    let six = c.in_ok-command-6.ensures ∙ ap₂ with_rule five c.number-4.ensures.rule in
    let seven = c.in_ok-command-7.ensures ∙ ap₂ with_rule six c.number-5.ensures.rule in
    let eight = c.in_ok-command-8.ensures ∙ ap₂ with_rule seven c.number-6.ensures.rule in
    IfOk-weaker c.with-9.result _ _ (λ it is. is ∙ (ap₂ with_rule eight c.number-7.ensures.rule ∙ whole)) c.with-9.ensures
