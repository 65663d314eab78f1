-- Blocks of an input that were read and counted one after the other, and inputs.
use Rattle.std.proofs.Common.{◌≡◌, ℕ, ◌+◌, ◌<◌, ◌==◌, Bor, true, false, List, [], ◌∷◌, ◌++◌, length, take, get_or, map, Option, None, Some, refl, sym, ◌∙◌, ap, subst, append_assoc, arith}
use Rattle.std.proofs.lemmas.Bool.Decides.{nat_tests}
use Rattle.std.proofs.lemmas.List.{append-nil, map-append, take_more}
use Rattle.hashbag_text.specs.Encodings.{after_bytes, text_in}
use Rattle.hashbag_text.specs.declared.decoder.Decoder.{Decoder}
use Rattle.hashbag_text.specs.declared.encoding.Encoding.{Encoding}
use Rattle.hashbag_words_lib.specs.Feeding.{AddsFed, EndsText, How}
use Rattle.hashbag_words_lib.specs.Inputs.{text_left, CountsInputs, FeedsNext, ReadsInput, ReadsBlock}
use Rattle.hashbag_words_lib.proofs.FeedingLemmas.{counted_more, counted_none, counted_one, fed_more, fed_none}

-- ---- texts after others

pub behind_nothing : (text : Option (List ℕ)) → after_bytes [] text ≡ text
behind_nothing None = refl
behind_nothing (Some t) = refl

behind_both : (xs ys : List ℕ) (text : Option (List ℕ)) → after_bytes xs (after_bytes ys text) ≡ after_bytes (xs ++ ys) text
behind_both xs ys None = refl
behind_both xs ys (Some t) = ap (λ (l : List ℕ). Some l) (sym (append_assoc xs ys t))

-- ---- reading

ended_of : (input : List ℕ × List ℕ) (before : List (List ℕ × List ℕ)) (block : List ℕ) (begun : Option (List ℕ × List ℕ)) (after : List (List ℕ × List ℕ)) → true ≡ (length block == 0) → ReadsBlock (Some input) before block begun after → after ≡ before ++ input ∷ []
ended_of input before [] begun after none reads = reads
ended_of input before (b ∷ bs) begun after none reads = absurd (grind (arith, nat_tests))

begun_of : (input : List ℕ × List ℕ) (before : List (List ℕ × List ℕ)) (block : List ℕ) (begun : Option (List ℕ × List ℕ)) (after : List (List ℕ × List ℕ)) → false ≡ (length block == 0) → ReadsBlock (Some input) before block begun after → (begun ≡ Some (input.0, input.1 ++ block)) × (after ≡ before)
begun_of input before [] begun after some reads = absurd (grind (arith, nat_tests))
begun_of input before (b ∷ bs) begun after some reads = reads

-- the block of the input that is open
of_open : (input : List ℕ × List ℕ) (begun begun' : Option (List ℕ × List ℕ)) (before after : List (List ℕ × List ℕ)) (block last : List ℕ) → begun ≡ Some input → block ≡ last → ReadsBlock begun before last begun' after → ReadsBlock (Some input) before block begun' after
of_open input begun begun' before after block last begins is reads =
    subst (λ (b : Option (List ℕ × List ℕ)). ReadsBlock b before block begun' after) begins (subst (λ (b : List ℕ). ReadsBlock begun before b begun' after) (sym is) reads)

-- ---- the text of an input so far

module _ {B C : Type 0} (has : How → C → List (List ℕ) → List ℕ → Type 0) (ended : B → List (List ℕ × List ℕ)) (encoding : Option Encoding) where
  -- these bytes of an input were read, and the counter was fed the text that they bring
  pub record SoFar (name : List ℕ) (inputs inputs' : B) (begun : Option (List ℕ × List ℕ)) (decoder : Option Decoder) (old new : C) : Type 0 where
    pub bytes : List ℕ
    pub text : List ℕ
    pub is : begun ≡ Some (name, bytes)
    pub same : ended inputs' ≡ ended inputs
    pub decodes : (more : List ℕ) → text_in encoding (bytes ++ more) ≡ after_bytes text (text_left decoder more)
    pub feeds : AddsFed has old new text

  -- nothing was read
  pub so_far_none : (name : List ℕ) (inputs inputs' : B) (begun : Option (List ℕ × List ℕ)) (decoder : Option Decoder) (c : C)
      → begun ≡ Some (name, []) → ended inputs' ≡ ended inputs → ((bytes : List ℕ) → text_left decoder bytes ≡ text_in encoding bytes) → SoFar name inputs inputs' begun decoder c c
  so_far_none name inputs inputs' begun decoder c is same new = record {
    bytes = [];
    text = [];
    is = is;
    same = same;
    decodes = λ more. sym (new more) ∙ sym (behind_nothing (text_left decoder more));
    feeds = fed_none has c;
  }

  -- a block more
  pub so_far_more : (name : List ℕ) (inputs first then : B) (begun begun' : Option (List ℕ × List ℕ)) (decoder decoder' : Option Decoder) (old mid new : C) (block read : List ℕ)
      → SoFar name inputs first begun decoder old mid → block ≡ read → ReadsBlock begun (ended first) read begun' (ended then) → false ≡ (length block == 0)
      → FeedsNext has mid new decoder block decoder' → SoFar name inputs then begun' decoder' old new
  so_far_more name inputs first then begun begun' decoder decoder' old mid new block read s is reads some fed =
      let next = begun_of (name, s.bytes) (ended first) block begun' (ended then) some (of_open (name, s.bytes) begun begun' (ended first) (ended then) block read s.is is reads) in
      record {
        bytes = s.bytes ++ block;
        text = s.text ++ fed.text;
        is = next.0;
        same = next.1 ∙ s.same;
        decodes = λ more. ap (λ (l : List ℕ). text_in encoding l) (append_assoc s.bytes block more) ∙ s.decodes (block ++ more)
            ∙ ap (λ (t : Option (List ℕ)). after_bytes s.text t) (fed.decodes more) ∙ behind_both s.text fed.text (text_left decoder' more);
        feeds = fed_more has old mid new s.text fed.text s.feeds fed.feeds;
      }

  -- the input has ended
  pub so_far_ended : (name : List ℕ) (inputs first then : B) (begun begun' : Option (List ℕ × List ℕ)) (decoder : Option Decoder) (old new : C) (block read : List ℕ)
      → SoFar name inputs first begun decoder old new → block ≡ read → ReadsBlock begun (ended first) read begun' (ended then) → true ≡ (length block == 0) → text_left decoder [] ≡ Some []
      → ReadsInput has ended encoding name inputs then old new
  so_far_ended name inputs first then begun begun' decoder old new block read s is reads none whole = record {
    bytes = s.bytes;
    read = ended_of (name, s.bytes) (ended first) block begun' (ended then) none (of_open (name, s.bytes) begun begun' (ended first) (ended then) block read s.is is reads)
        ∙ ap (λ (l : List (List ℕ × List ℕ)). l ++ (name, s.bytes) ∷ []) s.same;
    text = s.text;
    decoded = ap (λ (l : List ℕ). text_in encoding l) (sym (append-nil s.bytes)) ∙ s.decodes [] ∙ ap (λ (t : Option (List ℕ)). after_bytes s.text t) whole ∙ ap (λ (l : List ℕ). Some l) (append-nil s.text);
    feeds = s.feeds;
  }

  -- ---- inputs

  -- no input was counted
  pub no_inputs : (inputs : B) (c : C) → CountsInputs has ended encoding [] inputs inputs c c
  no_inputs inputs c = record { texts = []; read = record { inputs = []; named = refl; read = sym (append-nil (ended inputs)); decoded = refl }; counts = counted_none has c }

  -- an input more was read, and its text ended
  pub inputs_more : (names : List (Bor (List ℕ))) (i : ℕ) (d : Bor (List ℕ)) (inputs then read last : B) (old mid fed new : C) → i < length names
      → CountsInputs has ended encoding (take i names) inputs then old mid → ReadsInput has ended encoding (get_or names i d).now then read mid fed
      → EndsText has fed new → ended last ≡ ended read
      → CountsInputs has ended encoding (take (i + 1) names) inputs last old new
  inputs_more names i d inputs then read last old mid fed new within all one ends is =
      let input : List ℕ × List ℕ = ((get_or names i d).now, one.bytes) in
      let now_of : Bor (List ℕ) → List ℕ = λ name. name.now in
      let name_of : List ℕ × List ℕ → List ℕ = λ input. input.0 in
      let decode : List ℕ × List ℕ → Option (List ℕ) = λ input. text_in encoding input.1 in
      let some : List ℕ → Option (List ℕ) = λ text. Some text in
      let was = all.read in
      record {
        texts = all.texts ++ one.text ∷ [];
        read = record {
          inputs = was.inputs ++ input ∷ [];
          named = map-append name_of was.inputs (input ∷ []) ∙ ap (λ (l : List (List ℕ)). l ++ (get_or names i d).now ∷ []) was.named
              ∙ sym (map-append now_of (take i names) (get_or names i d ∷ [])) ∙ ap (λ (l : List (Bor (List ℕ))). map now_of l) (sym (take_more names i d within));
          read = is ∙ one.read ∙ ap (λ (l : List (List ℕ × List ℕ)). l ++ input ∷ []) was.read ∙ append_assoc (ended inputs) was.inputs (input ∷ []);
          decoded = map-append decode was.inputs (input ∷ []) ∙ ap (λ (l : List (Option (List ℕ))). l ++ text_in encoding one.bytes ∷ []) was.decoded
              ∙ ap (λ (t : Option (List ℕ)). map some all.texts ++ t ∷ []) one.decoded ∙ sym (map-append some all.texts (one.text ∷ []));
        };
        counts = counted_more has old mid new all.texts (one.text ∷ []) all.counts (counted_one has mid fed new one.text one.feeds ends);
      }
