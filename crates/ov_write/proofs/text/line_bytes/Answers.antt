-- The text says the line where the grammar lists its names.
use Rattle.std.proofs.Common.{◌≡◌, ◌∙◌, ◌++◌, ◌∷◌, [], List, ℕ, false, ap, sym, subst}
use Rattle.serde_json.specs.Written.{members_text}
use Rattle.ov_model.specs.declared.line.Line.{Line}
use Rattle.ov_line.specs.Grammar.{Says}
use Rattle.ov_write.specs.Text.{line_members, line_text}
use Rattle.ov_write.proofs.Canon.{says_text}
use Rattle.ov_write.proofs.text.line_bytes.Goals as goal

pub returns-clause-reads : goal.returns-clause-reads
unfolding line_text
returns-clause-reads c =
    let line : Line = c.args.line.now in
    let behind : List ℕ = members_text false (line_members line.at line.lane line.deed) in
    let is : c.of_vec.result ≡ line_text line =
    c.of_vec.ensures ∙ c.in_ok-put_deed.ensures
    ∙ ap (λ (p : List ℕ). p ++ behind) (c.in_ok-extend_from_slice.ensures.items ∙ ap (λ (p : List ℕ). p ++ 123 ∷ []) c.in_ok-page.ensures.items) in
    λ lanes listed. subst (λ (b : List ℕ). Says b lanes line) (sym is) (says_text lanes line listed)
