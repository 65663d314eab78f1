-- The definitions of encodings compute.
use Rattle.std.specs.Prelude.{◌≡◌, [], ◌∷◌, None, Some, refl}
use Rattle.hashbag_text.specs.Encodings.{decoded}
use Rattle.std.proofs.Math.Utf8.{encode}
use Rattle.core.specs.Char.Utf16.{utf16_chars}
use Rattle.hashbag_text.specs.declared.encoding.Encoding.TheVariants.{Utf16, Utf16Le, Utf16Be, Latin1, Windows1252}

-- the bytes 0xE4 and 0x80: `ä` and U+0080 in Latin-1, `ä` and a euro sign in Windows-1252
latin : decoded Latin1 (0xE4 ∷ 0x80 ∷ []) ≡ Some (0xC3 ∷ 0xA4 ∷ 0xC2 ∷ 0x80 ∷ [])
unfolding encode
latin = refl

windows : decoded Windows1252 (0xE4 ∷ 0x80 ∷ []) ≡ Some (0xC3 ∷ 0xA4 ∷ 0xE2 ∷ 0x82 ∷ 0xAC ∷ [])
unfolding encode
windows = refl

undefined : decoded Windows1252 (65 ∷ 0x81 ∷ []) ≡ None
undefined = refl

-- U+1F600 in each order, and with a mark
little : decoded Utf16Le (0x3D ∷ 0xD8 ∷ 0x00 ∷ 0xDE ∷ []) ≡ Some (0xF0 ∷ 0x9F ∷ 0x98 ∷ 0x80 ∷ [])
unfolding utf16_chars encode
little = refl

big : decoded Utf16Be (0xD8 ∷ 0x3D ∷ 0xDE ∷ 0x00 ∷ []) ≡ Some (0xF0 ∷ 0x9F ∷ 0x98 ∷ 0x80 ∷ [])
unfolding utf16_chars encode
big = refl

with_mark : decoded Utf16 (0xFE ∷ 0xFF ∷ 0 ∷ 65 ∷ []) ≡ Some (65 ∷ [])
unfolding utf16_chars encode
with_mark = refl

-- no mark, an odd byte, half a pair
without_mark : decoded Utf16 (0 ∷ 65 ∷ []) ≡ None
without_mark = refl

odd : decoded Utf16Le (65 ∷ 0 ∷ 66 ∷ []) ≡ None
odd = refl

half : decoded Utf16Le (0x3D ∷ 0xD8 ∷ 65 ∷ 0 ∷ []) ≡ None
unfolding utf16_chars
half = refl
