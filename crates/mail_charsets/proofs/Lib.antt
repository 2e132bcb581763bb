mod Utf8Lemmas
