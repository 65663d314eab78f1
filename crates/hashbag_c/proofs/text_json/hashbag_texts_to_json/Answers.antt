use Rattle.hashbag_c.proofs.JsonTextLemmas.{bytes_same, shallow}
use Rattle.hashbag_c.proofs.text_json.hashbag_texts_to_json.Goals as goal

pub closure+m-result-requires-asks-write_json-requires : goal.closure+m-result-requires-asks-write_json-requires
closure+m-result-requires-asks-write_json-requires c = λ _ _ _ _ _ _ _ _ _ _ _ _ _. (bytes_same, shallow)
