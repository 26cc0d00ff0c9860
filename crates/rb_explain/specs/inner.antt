pub mod InsnForms
