use Rattle.std.proofs.Common.{ℕ, sym, subst}
use Rattle.hashbag_words_lib.specs.RowText.{bytes_left}
use Rattle.hashbag_words_lib.specs.Shown.{IsShownAs, ShowsTexts}
use Rattle.hashbag_words_lib.specs.Writing.{text_of}
use Rattle.hashbag_words_lib.specs.declared.shown_text.Look.{Look}
use Rattle.hashbag_words_lib.specs.declared.writing.Format.TheVariants.{Shares}
use Rattle.hashbag_words_lib.proofs.shown_text.shown_of.Goals as goal

-- the bag has what is shown, and its text is made
pub returns-in_ok-shown_text-in-Rows : goal.returns-in_ok-shown_text-in-Rows
returns-in_ok-shown_text-in-Rows g c = λ texts together.
    let text = c.in_ok-shown_text-in-Rows in
    subst (λ (look : Look). ShowsTexts c.args.choice look texts (bytes_left text.field-0)) (sym c.in-Rows.is) (text.ensures texts (c.keep_shown-total.ensures.kept texts together))

-- the total is that of all texts
pub returns-in_ok-shown_text-in-Shares : goal.returns-in_ok-shown_text-in-Shares
returns-in_ok-shown_text-in-Shares g c = λ texts together.
    let text = c.in_ok-shown_text-in-Shares in
    let before = c.keep_shown-total.ensures in
    subst (λ (look : Look). ShowsTexts c.args.choice look texts (bytes_left text.field-0)) (sym c.in-Shares.is)
    (subst (λ (n : ℕ). IsShownAs c.args.choice (text_of (Shares n)) texts (bytes_left text.field-0)) (before.total texts together) (text.ensures texts (before.kept texts together)))

pub returns-in_ok-shown_bars-in-Bars : goal.returns-in_ok-shown_bars-in-Bars
returns-in_ok-shown_bars-in-Bars g c = λ texts together.
    let text = c.in_ok-shown_bars-in-Bars in
    subst (λ (look : Look). ShowsTexts c.args.choice look texts text.field-0.items) (sym c.in-Bars.is) (text.ensures texts (c.keep_shown-total.ensures.kept texts together))
