-- What each step on a cell tells its seat: of the step, the seat before, the number found and the seat after. The cells' words begin at 3.
use Rattle.std.specs.Prelude.{◌≡◌, ◌≢◌, ℕ, ◌-◌, ◌<◌, [], ◌∷◌, ◌++◌}
use Rattle.atomic_table.specs.Table.{Me, Step}
use Rattle.ov_base.specs.Sums.{count_of}
use Rattle.ov_turn.specs.declared.view.View.{View}
use Rattle.ov_turn.specs.Lists.{without}
use Rattle.ov_turn.specs.Steps.{holding}

module _ {S I : Type 0} where
  -- the cell is left to link no longer
  abbrev pub links : Step S → Me S (View I) → ℕ → Me S (View I) → Type 0
  links st m n w = w.0 ≡ holding m.0 m.0.holds m.0.owes (without (st.word - 3) m.0.to_link) m.0.to_unlink

  -- the cell is left to unlink no longer, and where its word was 1 its release is owed: not where the seat holds it
  abbrev pub unlinks : Step S → Me S (View I) → ℕ → Me S (View I) → Type 0
  unlinks st m n w =
      let cell = st.word - 3 in
      (n ≡ 1 → w.0 ≡ holding m.0 m.0.holds (m.0.owes ++ cell ∷ []) m.0.to_link (without cell m.0.to_unlink))
      × (n ≢ 1 → w.0 ≡ holding m.0 m.0.holds m.0.owes m.0.to_link (without cell m.0.to_unlink))
      × (0 < count_of cell m.0.holds → n ≢ 1)

  -- the seat holds the cell
  abbrev pub gets : Step S → Me S (View I) → ℕ → Me S (View I) → Type 0
  gets st m n w = w.0 ≡ holding m.0 (m.0.holds ++ (st.word - 3) ∷ []) m.0.owes m.0.to_link m.0.to_unlink

  -- the seat holds the cell no longer, and where its word was 2 its release is owed
  abbrev pub gives : Step S → Me S (View I) → ℕ → Me S (View I) → Type 0
  gives st m n w =
      let cell = st.word - 3 in
      (n ≡ 2 → w.0 ≡ holding m.0 (without cell m.0.holds) (m.0.owes ++ cell ∷ []) m.0.to_link m.0.to_unlink)
      × (n ≢ 2 → w.0 ≡ holding m.0 (without cell m.0.holds) m.0.owes m.0.to_link m.0.to_unlink)
