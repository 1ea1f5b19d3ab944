-- A replay session: what each piece of the input does.
pub mod Turn
pub mod Play
