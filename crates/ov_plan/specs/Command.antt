-- The command line as one simple command of clap: one required word, MODE, and options that take one value each.
use Rattle.std.specs.Prelude.{ℕ, ◌≡◌, List, [], ◌∷◌, Some, true, codes}
use Rattle.std.specs.Option.{option_map_or}
use Rattle.std.specs.Str.Parse.{digits_value, without_leading_plus}
use Rattle.clap.specs.Words.{App, Row, Rule, Text, first_of, first_value, one_text, new_rule, IsUnsignedIn}
use Rattle.clap.specs.Simple.{new_shape}
use Rattle.clap.specs.declared.builder.value_parser.ValueParser.TheVariants as vp
use Rattle.clap.specs.declared.parser.matches.Found.{Found}

-- The required word MODE.
abbrev pub mode_rule : Rule
mode_rule = record (new_rule (codes "mode")) { required = true }

-- An option whose value is a number from `least` to `most`.
abbrev pub number_rule : Text → ℕ → ℕ → Rule
number_rule name least most = record (new_rule name) { long = Some name; parser = Some (vp.Unsigned least most) }

-- An option whose value is a text.
abbrev pub text_rule : Text → Rule
text_rule name = record (new_rule name) { long = Some name }

-- The words that the command has.
abbrev pub rules : List Rule
rules = mode_rule
    ∷ number_rule (codes "lanes") 1 64
    ∷ number_rule (codes "head") 0 262144
    ∷ number_rule (codes "first-id") 1 4294967295
    ∷ text_rule (codes "schedule")
    ∷ number_rule (codes "seed") 0 4294967295
    ∷ number_rule (codes "count") 1 100000
    ∷ number_rule (codes "turns") 1 4294967295
    ∷ number_rule (codes "port") 1 65344
    ∷ []

-- The command. The words are those behind the program's name, and no option asks it for help.
unfoldable pub command : App
command = record {
  top = record (new_shape (codes "ovpn")) { rules = rules; no_binary_name = true; disable_help_flag = true };
  subs = [];
}

-- The number of an option in the matches: that of its text, where the words give it one, and else its default.
abbrev pub number_of : Text → ℕ → List Row → ℕ
number_of name standard rows = option_map_or (λ text. digits_value 10 (without_leading_plus text)) (first_of name rows) standard

-- What an option was given is a number in these bounds, and is read as it was written.
abbrev pub IsNumber : Found → Text → ℕ → ℕ → Type 0
IsNumber found name least most = (text : Text) → first_value found name ≡ Some text → (one_text found name ≡ Some text) × IsUnsignedIn least most text

-- So is what each option was given that takes a number.
pub record HasNumbers (found : Found) : Type 0 where
  pub lanes : IsNumber found (codes "lanes") 1 64
  pub head : IsNumber found (codes "head") 0 262144
  pub first_id : IsNumber found (codes "first-id") 1 4294967295
  pub seed : IsNumber found (codes "seed") 0 4294967295
  pub count : IsNumber found (codes "count") 1 100000
  pub turns : IsNumber found (codes "turns") 1 4294967295
  pub port : IsNumber found (codes "port") 1 65344
