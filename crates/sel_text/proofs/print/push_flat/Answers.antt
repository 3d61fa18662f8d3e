use Rattle.std.proofs.Common.{ap, string_bytes, subst, sym, ◌++◌, ◌∙◌}
use Rattle.sel_text.proofs.Common.{cell_value, hex_text, if◌then◌else◌, is_text_shape, on_ok_weaker, quoted, value_text}
use Rattle.sel_text.specs.Cells.{CellKind}
use Rattle.sel_text.proofs.print.push_flat.Goals as goal

pub returns-in-Bytes : goal.returns-in-Bytes
returns-in-Bytes c =
    let old = string_bytes c.args.text.now in
    let bytes = c.in-Bytes.bytes.now in
    on_ok_weaker c.push_hex.result (λ put shape kind.
    put ∙ ap (λ t. old ++ (if t then quoted bytes else hex_text bytes)) (sym (subst (CellKind shape) c.in-Bytes.is kind)) ∙ ap (λ cell. old ++ value_text shape (cell_value cell)) (sym c.in-Bytes.is)) c.push_hex.ensures

pub returns-in-View : goal.returns-in-View
returns-in-View c =
    let old = string_bytes c.args.text.now in
    let bytes = c.bytes_at.result.now in
    on_ok_weaker c.push_hex-in-View.result (λ put shape kind.
    put ∙ ap (λ t. old ++ (if t then quoted bytes else hex_text bytes)) (sym (subst (CellKind shape) c.in-View.is kind))
    ∙ ap (λ l. old ++ (if is_text_shape shape then quoted l else hex_text l)) c.bytes_at.ensures ∙ ap (λ cell. old ++ value_text shape (cell_value cell)) (sym c.in-View.is)) c.push_hex-in-View.ensures

pub returns-in-Text : goal.returns-in-Text
returns-in-Text c =
    let old = string_bytes c.args.text.now in
    let bytes = c.bytes_at-in-Text.result.now in
    on_ok_weaker c.push_quoted.result (λ put shape kind.
    put ∙ ap (λ t. old ++ (if t then quoted bytes else hex_text bytes)) (sym (subst (CellKind shape) c.in-Text.is kind))
    ∙ ap (λ l. old ++ (if is_text_shape shape then quoted l else hex_text l)) c.bytes_at-in-Text.ensures ∙ ap (λ cell. old ++ value_text shape (cell_value cell)) (sym c.in-Text.is)) c.push_quoted.ensures
