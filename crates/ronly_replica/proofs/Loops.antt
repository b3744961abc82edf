-- one step of the loops over pieces and over rows
use Rattle.std.proofs.Common.{◌≡◌, ℕ, ◌+◌, ◌<◌, List, [], ◌∷◌, ◌++◌, length, take, get_or, add-one, append_assoc, refl, ap, sym, ◌∙◌, length-append, Option, Some, None}
use Rattle.std.proofs.Math.Seq.{take-suc}
use Rattle.std.proofs.lemmas.List.{append-nil}
use Rattle.std.proofs.lemmas.List.Elements.{filter_map-append}
use Rattle.xt_messages.specs.declared.record.Record.{Record}
use Rattle.xt_messages.specs.declared.record.FileRow.{FileRow}
use Rattle.striping.specs.declared.Piece.{Piece}
use Rattle.ronly_replica.specs.declared.pin.Pin.{Pin}
use Rattle.ronly_replica.specs.Pins.{shown_in, all_shown, pin_of, pins_of, last_from, last_of}

take_more : {X : Type 0} (xs : List X) (i : ℕ) (x : X) → i < length xs → x ≡ get_or xs i x → take (i + 1) xs ≡ take i xs ++ x ∷ []
take_more xs i x lt is = rw add-one (take-suc xs i x lt ∙ ap (λ y. take i xs ++ y ∷ []) (sym is))

shown_push : (pin : Pin) (records : List Record) (pieces : List Piece) (piece : Piece) → all_shown pin records (pieces ++ piece ∷ []) ≡ all_shown pin records pieces ++ shown_in pin records piece
shown_push pin records [] piece = append-nil (shown_in pin records piece)
shown_push pin records (p ∷ ps) piece =
    ap (λ bytes. shown_in pin records p ++ bytes) (shown_push pin records ps piece)
    ∙ sym (append_assoc (shown_in pin records p) (all_shown pin records ps) (shown_in pin records piece))

pub shown_more : (pin : Pin) (records : List Record) (pieces : List Piece) (i : ℕ) (piece : Piece) (made slice : List ℕ) → i < length pieces → piece ≡ get_or pieces i piece
    → made ≡ all_shown pin records (take i pieces) → slice ≡ shown_in pin records piece → made ++ slice ≡ all_shown pin records (take (i + 1) pieces)
shown_more pin records pieces i piece made slice lt is so_far one =
    ap (λ m. m ++ slice) so_far ∙ ap (λ b. all_shown pin records (take i pieces) ++ b) one ∙ sym (shown_push pin records (take i pieces) piece)
    ∙ sym (ap (all_shown pin records) (take_more pieces i piece lt is))

-- ---- pins

pins_some : (row : FileRow) (pin : Pin) → pin_of row ≡ Some pin → pins_of (row ∷ []) ≡ pin ∷ []
pins_some row pin is = rw is refl

pins_none : (row : FileRow) → pin_of row ≡ None → pins_of (row ∷ []) ≡ []
pins_none row is = rw is refl

last_push : (before : Option Pin) (pins : List Pin) (pin : Pin) → last_from before (pins ++ pin ∷ []) ≡ Some pin
last_push before [] pin = refl
last_push before (p ∷ ps) pin = last_push (Some p) ps pin

pins_next : (rows : List FileRow) (i : ℕ) (row : FileRow) → i < length rows → row ≡ get_or rows i row → pins_of (take (i + 1) rows) ≡ pins_of (take i rows) ++ pins_of (row ∷ [])
pins_next rows i row lt is = ap pins_of (take_more rows i row lt is) ∙ filter_map-append pin_of (take i rows) (row ∷ [])

pub pin_more : (rows : List FileRow) (i : ℕ) (row : FileRow) (pin : Pin) → i < length rows → row ≡ get_or rows i row → pin_of row ≡ Some pin
    → pins_of (take (i + 1) rows) ≡ pins_of (take i rows) ++ pin ∷ []
pin_more rows i row pin lt is some = pins_next rows i row lt is ∙ ap (λ p. pins_of (take i rows) ++ p) (pins_some row pin some)

pub pin_less : (rows : List FileRow) (i : ℕ) (row : FileRow) → i < length rows → row ≡ get_or rows i row → pin_of row ≡ None
    → pins_of (take (i + 1) rows) ≡ pins_of (take i rows)
pin_less rows i row lt is none = pins_next rows i row lt is ∙ ap (λ p. pins_of (take i rows) ++ p) (pins_none row none) ∙ append-nil (pins_of (take i rows))

pub last_is : (pins : List Pin) (pin : Pin) → last_of (pins ++ pin ∷ []) ≡ Some pin
last_is pins pin = last_push None pins pin

pub one_longer : (pins : List Pin) (pin : Pin) → length (pins ++ pin ∷ []) ≡ length pins + 1
one_longer pins pin = length-append pins (pin ∷ [])
